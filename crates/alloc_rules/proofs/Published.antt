-- What a move of the books makes of labels that are to be published, or are out.
use Rattle.std.proofs.Common.{◌≡◌, ℕ, ◌+◌, ◌<◌, ◌≤◌, ◌⊎◌, true, eqb, List, length, Some, refl, ap, inl, inr, arith, slice_get, slice_set}
use Rattle.alloc_rules.proofs.Common.{cases_lt, eq-eqb, Label, Run, SpanRef, CallLine, NameState, state_of, bit, Account, Doing, asking, publishing, taking}
use Rattle.alloc_rules.proofs.Common.{unpublished, mentions, is_out, Setup, Stock, Books, Facts, Said, SaysOther, Move, Rests, GetsNone}
use Rattle.alloc_rules.proofs.Common.{GetsRun, GetsObject, GetsFirst, GetsSpan, SetsRun, SetsSpan, FindsObject, FindsRun, ClearsRun, ClearsSpan, FreesRun}
use Rattle.alloc_rules.proofs.Common.{FreesSpan, MovesHand, FreesObject, TakesNull, TakesAddr, least, name_cases}
use Rattle.holdings.specs.Moves.{Names}
use Rattle.name_table.specs.declared.table.NameState.TheVariants as name

-- a label that an account has something to do with is one of the names
pub within : (m : Setup) (b : Books) (calls : List CallLine) (t : ℕ) (a : Account) (label : ℕ) → Facts m b calls → slice_get b.accounts t ≡ Some a
    → 0 < mentions label a → label < length b.names
within m b calls t a label f at some =
    elim (cases_lt label m.labels) [
      | inl below ↦ omega (arith, f.names, below)
      | inr past ↦ absurd (omega (arith, f.labels label past, least (mentions label) b.accounts t a at, some))
    ]

abbrev Kept : List NameState → ℕ → Account → Account → Type 0
Kept names x a after = (unpublished x after ≡ unpublished x a) ⊎ (is_out (state_of names x) ≡ true)

module _ (m : Setup) (b : Books) (calls : List CallLine) (t : ℕ) (a : Account) (f : Facts m b calls) (at : slice_get b.accounts t ≡ Some a) where
  -- about which the account is
  own : (label : Label) (d : Doing) → a.doing ≡ d → 0 < asking label.0 d + publishing label.0 d + taking label.0 d → label.0 < length b.names
  own label d is some = within m b calls t a label.0 f at (omega (arith, some, ap (asking label.0) is, ap (publishing label.0) is, ap (taking label.0) is))

  written_out : (label : Label) (new : NameState) → is_out new ≡ true → label.0 < length b.names
      → (x : ℕ) → is_out (state_of b.names x) ≡ true → is_out (state_of (slice_set b.names label.0 new) x) ≡ true
  written_out label new out low x was = grind (arith, name_cases)

  one_here : (label : Label) → bit (eqb label.0 label.0) ≡ 1
  one_here label = ap bit (eq-eqb label.0 label.0 refl)

  pub stays_out : {stock : Stock} {heap : List Run} {spans : List SpanRef} {names : List NameState} {after : Account} {said : List Said}
      → Move m b a stock heap spans names after said → (x : ℕ) → is_out (state_of b.names x) ≡ true → is_out (state_of names x) ≡ true
  stays_out (Names label value a' is off clears state w) x out = written_out label (name.Published value) refl (own label _ is (omega (arith, one_here label))) x out
  stays_out (TakesNull label a' is state w) x out = written_out label name.Taken refl (own label _ is (omega (arith, one_here label))) x out
  stays_out (TakesAddr label o a' is state w) x out = written_out label name.Taken refl (own label _ is (omega (arith, one_here label))) x out
  stays_out given x out = out

  -- what is to be published stays so, or is out
  pub keeps_unpublished : {stock : Stock} {heap : List Run} {spans : List SpanRef} {names : List NameState} {after : Account} {said : List Said}
      → Move m b a stock heap spans names after said → (x : ℕ) → Kept names x a after
  keeps_unpublished (Rests a' new w says) x = inl (w.publishes x)
  keeps_unpublished (GetsNone label size a' is w) x = inl (omega (arith, w.publishes x, ap (asking x) is, ap (publishing x) is))
  keeps_unpublished (GetsRun label size r a' is off placed len w) x = inl (omega (arith, w.publishes x, ap (asking x) is, ap (publishing x) is))
  keeps_unpublished (GetsObject label size g o rest a' is class hand moves cut w) x = inl (omega (arith, w.publishes x, ap (asking x) is, ap (publishing x) is))
  keeps_unpublished (GetsFirst label size g r o rest apart mapped a' is off class hand one two adds cut w) x = inl (omega (arith, w.publishes x, ap (asking x) is, ap (publishing x) is))
  keeps_unpublished (GetsSpan r a' class off placed w) x = inl (w.publishes x)
  keeps_unpublished (SetsRun r a' off none w) x = inl (w.publishes x)
  keeps_unpublished (SetsSpan r apart a' off one two w) x = inl (w.publishes x)
  keeps_unpublished (FindsObject label o span k a' is hand off clears there holds kind w) x = inl (omega (arith, w.publishes x, ap (asking x) is, ap (publishing x) is))
  keeps_unpublished (FindsRun label r a' is there clears w) x = inl (w.publishes x)
  keeps_unpublished (ClearsRun label r a' is clears off w) x = inl (w.publishes x)
  keeps_unpublished (ClearsSpan s mapped a' is off w) x = inl (w.publishes x)
  keeps_unpublished (FreesRun label r a' is off apart clears w) x = inl (omega (arith, w.publishes x, ap (asking x) is, ap (publishing x) is))
  keeps_unpublished (FreesSpan s apart a' off one two w) x = inl (w.publishes x)
  keeps_unpublished (MovesHand g hand freed a' moves cut keeps same w) x = inl (w.publishes x)
  keeps_unpublished (FreesObject label o g freed a' is moves cut same w) x = inl (omega (arith, w.publishes x, ap (asking x) is, ap (publishing x) is))
  keeps_unpublished (Names label value a' is off clears state w) x = grind (arith, name_cases, one_here, own)
  keeps_unpublished (TakesNull label a' is state w) x = inl (omega (arith, w.publishes x, ap (asking x) is, ap (publishing x) is))
  keeps_unpublished (TakesAddr label o a' is state w) x = inl (omega (arith, w.publishes x, ap (asking x) is, ap (publishing x) is))

-- at most one call is decided
others_few : (said : List Said) → SaysOther said → length said ≤ 1
others_few said given = grind arith

pub said_few : (m : Setup) (b : Books) (a : Account) {stock : Stock} {heap : List Run} {spans : List SpanRef} {names : List NameState} {after : Account} {said : List Said}
    → Move m b a stock heap spans names after said → length said ≤ 1
said_few m b a given = grind (arith, others_few)
