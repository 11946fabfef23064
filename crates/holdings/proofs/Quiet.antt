-- Accounts that weigh the same, and calls that are about no label.
use Rattle.holdings.specs.Accounts.{Account, Doing, Frees, WeighSame, holds, loose}
use Rattle.tc_units.specs.declared.units.Addr.{Addr}
use Rattle.holdings.specs.Books.{Books, Setup, Stock}
use Rattle.tc_model.specs.declared.answers.CallLine.{CallLine}
use Rattle.holdings.specs.Facts.{Facts, IsSelf}
use Rattle.holdings.specs.Moves.{IsOther, books_with}
use Rattle.tc_units.specs.declared.units.Label.{Label}
use Rattle.std.proofs.Common.{List, Some, [], ap, arith, subst, ℕ, ◌++◌, ◌+◌, ◌<◌, ◌∙◌, ◌∷◌, ◌≡◌, ◌⊎◌}
use Rattle.name_table.specs.declared.table.NameState.{NameState}
use Rattle.tc_units.specs.declared.spans.Run.{Run}
use Rattle.tc_units.specs.declared.spans.SpanRef.{SpanRef}
use Rattle.tc_model.specs.Chains.{at}
use Rattle.holdings.specs.Runs.{objects_at, runs_like, spans_at, spans_like, spans_of_run}
use Rattle.tc_model.specs.Blocks.{blocks_after}
use Rattle.tc_model.proofs.Lists.{set_here}
use Rattle.std.specs.List.{slice_get}
use Rattle.std.proofs.lemmas.Bool.Decides.{nat_tests}
use Rattle.holdings.proofs.Standing.{answer_same, value_same}
use Rattle.holdings.proofs.Sums.{set_twice}
use Rattle.holdings.proofs.CallFacts.{blocks_after-push}
use Rattle.holdings.proofs.Groups.{heap_facts, labels_still, moved, places_still, spans_still, still}
use Rattle.holdings.proofs.KeptFacts.{kept_other, other_blocks, other_label}

-- who holds an address of a label has it loose, or among its objects in hand
pub holder : (d : Doing) (x : ℕ) (o : Addr) → 0 < holds x (Some o) d → (0 < loose o.0 d) ⊎ ((label : Label) × (addr : Addr) × (d ≡ Frees label addr) × (label.0 ≡ x) × (addr.0 ≡ o.0))
holder d x o some = grind (arith)

-- an account that weighs the same keeps of itself what the other kept
freeing_same : (m : Setup) (a w : Account) → IsSelf m a → WeighSame a w → (label : Label) (addr : Addr) → w.doing ≡ Frees label addr → 0 < objects_at addr.0 w.hand
freeing_same m a w self same label addr is =
    grind (arith, nat_tests, holder a.doing label.0 addr, same.value label.0 (Some addr), same.loosely addr.0, self.freeing)

self_same : (m : Setup) (a w : Account) → IsSelf m a → WeighSame a w → IsSelf m w
self_same m a w self same = grind (arith, freeing_same m a w self same, self.mapped, self.whole, same.loosely, self.offs, self.cleared)

pub becomes_once : (m : Setup) (b : Books) (calls : List CallLine) (f : Facts m b calls) (t : ℕ) (a w : Account)
    → slice_get b.accounts t ≡ Some a → WeighSame a w → Facts m (books_with b b.stock b.heap b.spans b.names t w) calls
becomes_once m b calls f t a w at same =
    let apart : (r : Run) → spans_of_run r w.apart ≡ spans_of_run r a.apart = λ r. ap (spans_of_run r) same.apart in
    moved f t a w at b.stock b.heap b.spans b.names calls f.kept (still f t a w at b.heap b.spans b.names (λ x l. (l.live, l.unmapped, apart l.run ∙ l.unheld t a at)))
    (heap_facts f) f.cut (self_same m a w (f.selves t a at) same) (labels_still f t a w at same.asks same.publishes same.takes same.mentioned same.value)
    (spans_still f t a w at b.stock.owned (λ r. ap (runs_like r) same.off) (λ s. ap (λ n. b.stock.owned s + n) (ap (spans_like s) same.mapped)) (λ s. ap (spans_like s) same.clears))
    (places_still f t a w at (λ n.
    let o : _ = ap (objects_at n) same.objects in
    let s : _ = ap (spans_at n) same.apart in
    let l = same.loosely n in
    omega (arith, o, s, l)) (λ n. ap (spans_at n) same.apart) same.classes)

-- an account comes to be another that weighs the same
pub becomes : (m : Setup) (b : Books) (t : ℕ) (a w w' : Account) (stock : Stock) (heap : List Run) (spans : List SpanRef) (names : List NameState) (calls : List CallLine)
    → slice_get b.accounts t ≡ Some a → Facts m (books_with b stock heap spans names t w) calls
    → WeighSame w w' → Facts m (books_with b stock heap spans names t w') calls
becomes m b t a w w' stock heap spans names calls at f same =
    subst (λ (xs : List Account). Facts m (record { stock = stock; heap = heap; spans = spans; names = names; accounts = xs }) calls) (set_twice b.accounts t w w')
    (becomes_once m (books_with b stock heap spans names t w) calls f t w w' (set_here b.accounts t w a at) same)

-- a call that is about no label
pub says_other : (m : Setup) (b : Books) (calls : List CallLine) (c : CallLine) → Facts m b calls → IsOther c.call c.answer → Facts m b (calls ++ c ∷ [])
says_other m b calls c f is = grind (
  arith,
  other_label c.call c.answer is,
  kept_other f.kept c is,
  blocks_after-push calls c,
  other_blocks (blocks_after calls) c.call c.answer is,
  answer_same calls c,
  f.once,
  value_same calls c,
  f.tie,
)
