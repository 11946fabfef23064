-- What acts make of labels.
use Rattle.holdings.specs.Accounts.{Account, Asks, Doing, Frees, Holds, Other, Publishes, asking, gets, holding, holds, is_out, is_taken, means}
use Rattle.holdings.specs.Accounts.{mentions, named_at, pending, publishing, puts, same_value, taking, unpublished, untaken, Takes}
use Rattle.tc_units.specs.declared.units.Addr.{Addr}
use Rattle.tc_model.specs.declared.answers.Answer.{Answer}
use Rattle.holdings.specs.Books.{Books, Setup}
use Rattle.tc_model.specs.declared.answers.CallLine.{CallLine}
use Rattle.holdings.specs.Facts.{Facts, value_after, standing}
use Rattle.tc_model.specs.declared.calls.Call.TheVariants.{Free, Malloc}
use Rattle.tc_model.specs.declared.answers.Answer.TheVariants.{Freed}
use Rattle.tc_units.specs.declared.units.Label.{Label}
use Rattle.std.proofs.Common.{List, None, Option, Some, [], ap, arith, eqb, false, inl, inr, length, refl, subst, sym}
use Rattle.std.proofs.Common.{true, ℕ, ◌&&◌, ◌++◌, ◌+◌, ◌<◌, ◌∙◌, ◌∷◌, ◌≡◌, ◌⊎◌}
use Rattle.name_table.specs.declared.table.NameState.{NameState}
use Rattle.tc_units.specs.declared.units.ThreadNo.{ThreadNo}
use Rattle.tc_model.specs.Blocks.{answer_to}
use Rattle.holdings.specs.Runs.{bit}
use Rattle.std.proofs.lemmas.Bool.{cases_Bool, cases_lt, eq-eqb, false≢true}
use Rattle.std.specs.Prelude.{is_some, sum_by}
use Rattle.std.proofs.lemmas.List.{length-set}
use Rattle.std.specs.List.{slice_get, slice_set}
use Rattle.name_table.specs.Names.{state_of}
use Rattle.std.proofs.lemmas.List.Sums.{sum_by-set}
use Rattle.std.proofs.lemmas.Bool.Decides.{nat_tests}
use Rattle.holdings.specs.Kept.{value_of}
use Rattle.holdings.proofs.Groups.{LabelFacts}
use Rattle.holdings.proofs.Standing.{answer_same, gain, lose, same_value_refl, standing_is}
use Rattle.holdings.proofs.CallFacts.{answer_to-push_new}
use Rattle.holdings.proofs.Sums.{least, name_cases, shift}
use Rattle.name_table.specs.declared.table.NameState.TheVariants as name

is_some_none : (o : Option Answer) → bit (is_some o) ≡ 0 → o ≡ None
is_some_none None e = refl
is_some_none (Some a) e = absurd (omega arith)

-- which labels have an answer, after one more allocation
answered_gain : (calls : List CallLine) (thread : ThreadNo) (label : Label) (size : ℕ) (answer : Answer) → answer_to label.0 calls ≡ None → (x : ℕ)
    → bit (is_some (answer_to x (calls ++ record { thread = thread; call = Malloc label size; answer = answer } ∷ []))) ≡ bit (is_some (answer_to x calls)) + bit (eqb label.0 x)
answered_gain calls thread label size answer none x = grind (arith, nat_tests, answer_to-push_new, answer_same)

-- a call that gives a label back, with the address that it holds of it
pub record Returns (label : Label) (o : Addr) (d : Doing) : Type 0 where
  pub asks : (x : ℕ) → asking x d ≡ 0
  pub publishes : (x : ℕ) → publishing x d ≡ 0
  pub takes : (x : ℕ) → taking x d ≡ 0
  pub value : (x : ℕ) (v : Option Addr) → holds x v d ≡ bit (eqb label.0 x && same_value (Some o) v)

pub by_holds : (label : Label) (o : Addr) (d : Doing) → d ≡ Holds label o → Returns label o d
by_holds label o d is = subst (Returns label o) (sym is) (record { asks = λ x. refl; publishes = λ x. refl; takes = λ x. refl; value = λ x v. refl })

pub by_frees : (label : Label) (o : Addr) (d : Doing) → d ≡ Frees label o → Returns label o d
by_frees label o d is = subst (Returns label o) (sym is) (record { asks = λ x. refl; publishes = λ x. refl; takes = λ x. refl; value = λ x v. refl })

module _ {m : Setup} {b : Books} {calls : List CallLine} (f : Facts m b calls) (t : ℕ) (a : Account) (at : slice_get b.accounts t ≡ Some a) where
  own_bit : (label : Label) (v : Option Addr) → (bit (eqb label.0 label.0) ≡ 1) × (bit (eqb label.0 label.0 && same_value v v) ≡ 1)
  own_bit label v = let e = eq-eqb label.0 label.0 refl in (ap bit e, rw (e, same_value_refl v) refl)

  -- a label that is asked for has no answer yet
  pub unanswered : (label : Label) (size : ℕ) → a.doing ≡ Asks label size → answer_to label.0 calls ≡ None
  unanswered label size is =
      is_some_none (answer_to label.0 calls) (omega (arith, f.once label.0, least (pending label.0) b.accounts t a at, ap (asking label.0) is, (own_bit label None).0))

  -- what a label has where a call holds its value, or its name has it
  pub value_held : (x : ℕ) (v : Option Addr) → 0 < holds x v a.doing → value_after calls x ≡ Some v
  value_held x v some = standing_is calls x v (omega (arith, f.tie x v, least (holding x v) b.accounts t a at, some))

  pub value_returned : (label : Label) (o : Addr) → Returns label o a.doing → value_after calls label.0 ≡ Some (Some o)
  value_returned label o r = value_held label.0 (Some o) (omega (arith, r.value label.0 (Some o), (own_bit label (Some o)).1))

  pub value_named : (x : ℕ) (v : Option Addr) → state_of b.names x ≡ name.Published v → value_after calls x ≡ Some v
  value_named x v is =
      let e : bit (means v (state_of b.names x)) ≡ 1 = ap (λ q. bit (means v q)) is ∙ ap bit (same_value_refl v) in standing_is calls x v (omega (arith, f.tie x v, e))

  -- a label that a call has something to do with is one of the names
  within : (label : Label) → 0 < mentions label.0 a → label.0 < length b.names
  within label some =
      elim (cases_lt label.0 m.labels) [
        | inl below ↦ omega (arith, f.names)
        | inr past ↦ absurd (omega (arith, f.labels label.0 past, least (mentions label.0) b.accounts t a at, some))
      ]

  -- a name is written
  pub named : (n : ℕ) (i : ℕ) (old new : NameState) → i < length b.names → state_of b.names i ≡ old
      → sum_by (named_at n) (slice_set b.names i new) + named_at n old ≡ sum_by (named_at n) b.names + named_at n new
  named n i old new there is = grind (arith, sum_by-set)

  -- what a number of a label's meaning is then
  written : (label : Label) (old new : NameState) → label.0 < length b.names → state_of b.names label.0 ≡ old → (x : ℕ) (k : NameState → ℕ)
      → (k (state_of (slice_set b.names label.0 new) x) ≡ k new) × (k (state_of b.names x) ≡ k old) × (eqb label.0 x ≡ true)
      ⊎ ((k (state_of (slice_set b.names label.0 new) x) ≡ k (state_of b.names x)) × (eqb label.0 x ≡ false))
  written label old new there is x k =
      elim (name_cases b.names label.0 new there x) [ inl c ↦ inl (ap k c.1, ap k (subst (λ y. state_of b.names y ≡ old) c.2 is), c.0) | inr c ↦ inr (ap k c.1, c.0) ]

  -- an allocation is decided
  module _ (w : Account) (todo : w.todo ≡ a.todo) where
    -- what a sum over the accounts is then
    moved : (k : Account → ℕ) → sum_by k (slice_set b.accounts t w) + k a ≡ sum_by k b.accounts + k w
    moved k = shift k b.accounts t a w at

    g : (x : ℕ) → gets x w.todo ≡ gets x a.todo
    g x = ap (gets x) todo

    p : (x : ℕ) → puts x w.todo ≡ puts x a.todo
    p x = ap (puts x) todo

    pub labels_got : (label : Label) (size : ℕ) (answer : Answer) → a.doing ≡ Asks label size → w.doing ≡ Publishes label (value_of answer)
        → LabelFacts m.labels b.names (slice_set b.accounts t w) (calls ++ record { thread = record { 0 = t }; call = Malloc label size; answer = answer } ∷ [])
    labels_got label size answer is then = grind (arith, answered_gain, cases_Bool, false≢true, g, gain, moved, p, unanswered)

    -- a free is decided
    pub labels_freed : (label : Label) (o : Addr) → Returns label o a.doing → w.doing ≡ Other
        → LabelFacts m.labels b.names (slice_set b.accounts t w) (calls ++ record { thread = record { 0 = t }; call = Free label; answer = Freed o } ∷ [])
    labels_freed label o r then =
        let c : CallLine = record { thread = record { 0 = t }; call = Free label; answer = Freed o } in
        let n : (k : Doing → ℕ) → k w.doing ≡ k Other = λ k. ap k then in
        record {
          count = f.names;
          beyond = λ x past. omega (arith, f.labels x past, moved (mentions x), n (asking x), n (publishing x), n (taking x), g x, p x);
          once = λ x. let e : _ = ap (λ q. bit (is_some q)) (answer_same calls c x refl) in omega (arith, f.once x, moved (pending x), n (asking x), g x, e);
          published = λ x. omega (arith, f.published x, moved (unpublished x), n (asking x), n (publishing x), g x);
          taken = λ x. omega (arith, f.taken x, moved (untaken x), n (taking x), p x);
          tie = λ x v. omega (arith, f.tie x v, moved (holding x v), r.value x v, n (holds x v), lose calls (record { 0 = t }) label (Freed o) (Some o) (value_returned label o r) x v);
        }

    -- a label is published
    pub publishes_within : (label : Label) (value : Option Addr) → a.doing ≡ Publishes label value → label.0 < length b.names
    publishes_within label value is = within label (omega (arith, ap (publishing label.0) is, (own_bit label value).0))

    pub labels_published : (label : Label) (value : Option Addr) → a.doing ≡ Publishes label value → w.doing ≡ Other
        → state_of b.names label.0 ≡ name.Unpublished → LabelFacts m.labels (slice_set b.names label.0 (name.Published value)) (slice_set b.accounts t w) calls
    labels_published label value is then old =
        let o : (k : Doing → ℕ) → k a.doing ≡ k (Publishes label value) = λ k. ap k is in
        let n : (k : Doing → ℕ) → k w.doing ≡ k Other = λ k. ap k then in
        let there = publishes_within label value is in
        let state = λ (x : ℕ) (q : NameState → ℕ). written label name.Unpublished (name.Published value) there old x q in
        record {
          count = length-set b.names label.0 (name.Published value) ∙ f.names;
          beyond = λ x past. omega (arith, f.labels x past, moved (mentions x), n (asking x), n (publishing x), n (taking x), g x, p x);
          once = λ x. omega (arith, f.once x, moved (pending x), o (asking x), n (asking x), g x);
          published = λ x.
              let e = f.published x in let s = moved (unpublished x) in
              elim (state x (λ q. bit (is_out q))) [
                | inl c ↦ let h : bit (eqb label.0 x) ≡ 1 = ap bit c.2 in omega (arith, e, s, o (asking x), o (publishing x), n (asking x), n (publishing x), g x, h, c.0, c.1)
                | inr c ↦ omega (arith, e, s, o (asking x), o (publishing x), n (asking x), n (publishing x), g x, c.0)
              ];
          taken = λ x.
              let e = f.taken x in let s = moved (untaken x) in
              elim (state x (λ q. bit (is_taken q))) [
                | inl c ↦ omega (arith, e, s, o (taking x), n (taking x), p x, c.0, c.1)
                | inr c ↦ omega (arith, e, s, o (taking x), n (taking x), p x, c.0)
              ];
          tie = λ x v.
              let e = f.tie x v in let s = moved (holding x v) in
              elim (state x (λ q. bit (means v q))) [
                | inl c ↦ let h : _ = ap (λ q. bit (q && same_value value v)) c.2 in omega (arith, e, s, o (holds x v), n (holds x v), h, c.0, c.1)
                | inr c ↦ let h : _ = ap (λ q. bit (q && same_value value v)) c.1 in omega (arith, e, s, o (holds x v), n (holds x v), h, c.0)
              ];
        }

    -- a label is taken, with its value on its way back, or freed at once where it has none
    pub takes_within : (label : Label) → a.doing ≡ Takes label → label.0 < length b.names
    takes_within label is = within label (omega (arith, ap (taking label.0) is, (own_bit label None).0))

    pub labels_taken : (label : Label) (u : Option Addr) (after : List CallLine) → a.doing ≡ Takes label → state_of b.names label.0 ≡ name.Published u
        → ((x : ℕ) → asking x w.doing + publishing x w.doing + taking x w.doing ≡ 0)
        → ((x : ℕ) → bit (is_some (answer_to x after)) ≡ bit (is_some (answer_to x calls)))
        → ((x : ℕ) (v : Option Addr) → holds x v w.doing + standing x v calls ≡ bit (eqb label.0 x && same_value u v) + standing x v after)
        → LabelFacts m.labels (slice_set b.names label.0 name.Taken) (slice_set b.accounts t w) after
    labels_taken label u after is old idle answers values =
        let o : (k : Doing → ℕ) → k a.doing ≡ k (Takes label) = λ k. ap k is in
        let there = takes_within label is in
        let state = λ (x : ℕ) (q : NameState → ℕ). written label (name.Published u) name.Taken there old x q in
        record {
          count = length-set b.names label.0 name.Taken ∙ f.names;
          beyond = λ x past. omega (arith, f.labels x past, moved (mentions x), idle x, g x, p x);
          once = λ x. omega (arith, f.once x, moved (pending x), o (asking x), idle x, g x, answers x);
          published = λ x.
              let e = f.published x in let s = moved (unpublished x) in
              elim (state x (λ q. bit (is_out q))) [
                | inl c ↦ omega (arith, e, s, o (asking x), o (publishing x), idle x, g x, c.0, c.1)
                | inr c ↦ omega (arith, e, s, o (asking x), o (publishing x), idle x, g x, c.0)
              ];
          taken = λ x.
              let e = f.taken x in let s = moved (untaken x) in
              elim (state x (λ q. bit (is_taken q))) [
                | inl c ↦ let h : bit (eqb label.0 x) ≡ 1 = ap bit c.2 in omega (arith, e, s, o (taking x), idle x, p x, h, c.0, c.1)
                | inr c ↦ omega (arith, e, s, o (taking x), idle x, p x, c.0)
              ];
          tie = λ x v.
              let e = f.tie x v in let s = moved (holding x v) in
              elim (state x (λ q. bit (means v q))) [
                | inl c ↦ let h : _ = ap (λ q. bit (q && same_value u v)) c.2 in omega (arith, e, s, o (holds x v), values x v, h, c.0, c.1)
                | inr c ↦ let h : _ = ap (λ q. bit (q && same_value u v)) c.1 in omega (arith, e, s, o (holds x v), values x v, h, c.0)
              ];
        }
