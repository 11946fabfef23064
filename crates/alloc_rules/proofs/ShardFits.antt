-- The acts at a shard fit: a new span is apart from the others, and a hand that is given was taken there.
use Rattle.std.proofs.Common.{◌≡◌, ℕ, ◌+◌, ◌<◌, ◌≤◌, ◌⊎◌, List, [], length, map, get_or, Some, ap, ◌∙◌, subst, arith, inl, inr, All, slice_get}
use Rattle.alloc_rules.proofs.Common.{cases_lt, cond-true, eq-eqb, get_or-map, length-map, get_or-le-sum_by, get_or_from_slice_get, Addr, Run, first_shard}
use Rattle.alloc_rules.proofs.Common.{SpanRef, CallLine, HeapConfig, SpanState, IsTakenIn, IsApartFrom, Shard, places, spans_in, objects_in_spans, found_at}
use Rattle.alloc_rules.proofs.Common.{spans_cut, bit, small, same_span, objects_at, spans_like, Setup, Stock, Books, IsTaken, IsMapped, least}
use Rattle.alloc_rules.proofs.Common.{same_span_refl, all_spans, one_number, hands_are_taken, mapped_are_there, Asking, Fetch, AddFetch, Give, no_class}
use Rattle.alloc_rules.proofs.Common.{class_row, Local, FitsBatch, FitsShard, Planned, About, account_of, mapped_of, FrontRules, Parts, stock_of}
use Rattle.alloc_rules.proofs.Common.{shard_at, IsShardOf, setup, IsBefore, Step, ShardStep, IsClassRow, StepShape, ShardActsFit}
use Rattle.class_shard.proofs.CountedOnceDiffer.{once_differ}
use Rattle.call_steps.specs.declared.step.Step.TheVariants as does
use Rattle.alloc_rules.proofs.{Counting.objects_count, Freeing.account_at}

-- an object of a list is at its address there
objects_have : (xs : List Addr) (i : ℕ) (d : Addr) → i < length xs → 0 < objects_at (get_or xs i d).0 xs
objects_have xs i d less = grind (arith, cond-true, eq-eqb, get_or-le-sum_by, objects_count)

-- what holds of the spans of a list of states
states_have : (P : SpanRef → Type 0) (states : List SpanState) → All P (map (λ (x : SpanState). x.span) states) → All (λ (x : SpanState). P x.span) states
states_have P states all = λ i d less. subst P (get_or-map (λ (x : SpanState). x.span) states i d d.span less) (all i d.span (omega (arith, length-map states (λ (x : SpanState). x.span), less)))

module _ {P V R : Type 0} {r : FrontRules P V R} {about : R → About} {planned : Planned → Type 0} where
  module _ {huge labels : ℕ} {limits : HeapConfig} {p : Parts P} {locals : List (Local V R)} {b : Books} {calls : List CallLine} {t : ℕ} {l : Local V R}
      {x : Shard} (before : IsBefore r about planned huge labels limits p locals b calls t l) (at : slice_get p.shards l.regs.class.0 ≡ Some x) where
    abbrev m : Setup
    m = setup r huge labels

    pub of_class : IsShardOf m.rows l.regs.class.0 x
    of_class = before.parts.shards l.regs.class.0 x at

    pub shard_is : shard_at p.shards l.regs.class.0 ≡ x
    shard_is = get_or_from_slice_get p.shards l.regs.class.0 x (first_shard 0 0 no_class) at

    pub row_is : class_row m.rows l ≡ x.central.row
    row_is = get_or_from_slice_get m.rows l.regs.class.0 x.central.row no_class of_class.row

    pub class_row_is : IsClassRow (class_row m.rows l)
    class_row_is = before.rows.each l.regs.class.0 no_class before.shaped.class

    batch_fits : l.regs.hand.items ≡ [] → FitsBatch m.rows l.regs
    batch_fits none = grind (arith, class_row_is)

    -- a span that was set is in the map, and apart from those of the shard
    pub is_mapped : (asking : Asking) (run : Run) → l.step ≡ does.Shard (AddFetch asking run) → IsMapped m b (small l.regs.class run)
    is_mapped asking run is =
        let s : SpanRef = small l.regs.class run in
        let held : spans_like s (account_of about l).mapped ≡ bit (same_span s s) + 0 = ap (λ (x : Step R). spans_like s (mapped_of l.regs.class l.freed.items x)) is in
        let same : bit (same_span s s) ≡ 1 = ap bit (same_span_refl s) in
        mapped_are_there m b calls t (account_of about l) s before.facts (account_at t before.books before.local) (omega (arith, held, same))

    add_pages : (run : Run) → IsMapped m b (small l.regs.class run) → run.pages ≡ x.central.row.pages
    add_pages run mapped = grind (arith, one_number, row_is)

    add_apart : (run : Run) → IsMapped m b (small l.regs.class run) → All (IsApartFrom (small l.regs.class run)) x.central.spans
    add_apart run mapped =
        let P : SpanRef → Type 0 = λ s. (run.first.0 + run.pages ≤ s.first.0) ⊎ (s.first.0 + s.pages ≤ run.first.0) in
        states_have P x.central.spans (all_spans P (spans_in x) (λ s some.
        (let stock : b.stock.owned s ≡ (stock_of r about p).owned s = ap (λ (g : Stock). g.owned s) before.books.stock in
        let sum = least (λ (y : Shard). spans_like s (spans_in y)) p.shards l.regs.class.0 x at in
        mapped.apart s (omega (arith, stock, sum, some)))))

    -- what is in hand was taken from the shard
    hand_taken : (n : ℕ) → 0 < objects_at n l.regs.hand.items → IsTaken b l.regs.class.0 n l.regs.hand.items
    hand_taken n some = hands_are_taken m b calls t (account_of about l) n before.facts (account_at t before.books before.local) some

    hand_taken_in : (a : Addr) → 0 < objects_at a.0 l.regs.hand.items → IsTakenIn x.central.spans a
    hand_taken_in a some =
        let taken = hand_taken a.0 some in
        let k = l.regs.class.0 in
        let objects = ap (λ (g : Stock). g.objects k a.0) before.books.stock ∙ ap (λ (y : Shard). objects_at a.0 (objects_in_spans y)) shard_is in
        let stored : b.stock.stored k a.0 ≡ (stock_of r about p).stored k a.0 = ap (λ (g : Stock). g.stored k a.0) before.books.stock in
        let here : objects_at a.0 (places (shard_at p.shards k)) ≡ objects_at a.0 (places x) = ap (λ (y : Shard). objects_at a.0 (places y)) shard_is in
        (spans_cut x of_class.sound).taken a (omega (arith, taken.object, objects, objects_count a.0 (objects_in_spans x))) (omega (arith, taken.free, stored, here, objects_count a.0 (places x)))

    hand_once : (n : ℕ) → found_at n l.regs.hand.items ≤ 1
    hand_once n =
        elim (cases_lt 0 (objects_at n l.regs.hand.items)) [
          | inl some ↦ omega (arith, (hand_taken n some).once, objects_count n l.regs.hand.items)
          | inr none ↦ omega (arith, none, objects_count n l.regs.hand.items)
        ]

    fits_by : (row : ShardStep R) → l.step ≡ does.Shard row → StepShape m.rows about l (does.Shard row) → FitsShard m.rows x l (does.Shard row)
    fits_by (Fetch asking) is shape = (batch_fits shape.0.hand, shape.0.hand)
    fits_by (AddFetch asking run) is shape =
        let mapped = is_mapped asking run is in
        (record { batch = batch_fits shape.0.hand; pages = add_pages run mapped; apart = add_apart run mapped }, shape.0.hand)
    fits_by (Give g) is shape =
        let spans : length l.freed.items ≡ 0 = ap (λ (s : List SpanRef). length s) shape.0.freed in
        record {
          taken = λ i d less. hand_taken_in (get_or l.regs.hand.items i d) (objects_have l.regs.hand.items i d less);
          different = once_differ l.regs.hand.items hand_once;
          room = omega (arith, spans, shape.0.few, before.shaped.freed);
        }

module _ {P V R : Type 0} (r : FrontRules P V R) (about : R → About) (planned : Planned → Type 0) where
  pub shard_acts_fit : ShardActsFit r about planned
  shard_acts_fit huge labels limits p locals b calls t l x row before is at =
      fits_by before at row is (subst (λ (s : Step R). StepShape r.calls.rows about l s) is before.shaped.step)
