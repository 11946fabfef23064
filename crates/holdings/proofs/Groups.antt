-- The facts in groups, and what keeps each group.
use Rattle.holdings.specs.Accounts.{Account, clearing, held_at, holding, in_hand, is_out, is_taken, means, mentions, named_at, off_map, pending, transit, unpublished, untaken}
use Rattle.tc_units.specs.declared.units.Addr.{Addr}
use Rattle.std.specs.Prelude.{All, is_some, sum_by}
use Rattle.holdings.specs.Kept.{AreKept}
use Rattle.holdings.specs.Books.{Books, IsCut, Setup, Stock, class_number, over_classes}
use Rattle.std.proofs.Common.{Bool, List, Option, Some, arith, false, inl, inr, length, ltb, subst, ℕ, ◌&&◌, ◌+◌, ◌<◌, ◌∷◌, ◌≡◌, ◌≤◌, ◌⊎◌}
use Rattle.tc_model.specs.declared.answers.CallLine.{CallLine}
use Rattle.tc_units.specs.declared.spans.ClassRow.{ClassRow}
use Rattle.tc_model.specs.Blocks.{Extent, answer_to, blocks_after, meets}
use Rattle.holdings.specs.Facts.{Facts, IsLarge, IsRun, IsSelf, IsStanding, standing}
use Rattle.holdings.specs.Runs.{IsPlaced, bit, block_of, large, less, runs_at, runs_like, same_run, small, spans_at, spans_like, spans_of_run}
use Rattle.name_table.specs.declared.table.NameState.{NameState}
use Rattle.tc_units.specs.declared.spans.Run.{Run}
use Rattle.tc_units.specs.declared.spans.SpanRef.{SpanRef}
use Rattle.holdings.specs.Moves.{books_with}
use Rattle.std.proofs.lemmas.Bool.{cases_Bool, false≢true}
use Rattle.tc_units.specs.Classes.{length_of}
use Rattle.std.specs.List.{slice_get, slice_set}
use Rattle.std.proofs.lemmas.Bool.Decides.{nat_tests}
use Rattle.name_table.specs.Names.{state_of}
use Rattle.holdings.proofs.Sums.{All-weaken, less_counts, like, same_run_is, same_run_refl, set_cases, shift, starting}

pub record HeapFacts (huge : ℕ) (heap : List Run) : Type 0 where
  pub inside : (r : Run) → 0 < runs_like r heap → IsRun huge r
  pub disjoint : (r x : Run) → 0 < runs_like r heap → 0 < runs_like x heap → same_run r x ≡ false → meets (block_of r) (block_of x) ≡ false
  pub starts : (a : ℕ) → runs_at a heap ≤ 1

pub record LabelFacts (labels : ℕ) (names : List NameState) (accounts : List Account) (calls : List CallLine) : Type 0 where
  pub count : length names ≡ labels
  pub beyond : (x : ℕ) → labels ≤ x → sum_by (mentions x) accounts ≡ 0
  pub once : (x : ℕ) → sum_by (pending x) accounts + bit (is_some (answer_to x calls)) ≤ 1
  pub published : (x : ℕ) → sum_by (unpublished x) accounts + bit (is_out (state_of names x)) ≤ 1
  pub taken : (x : ℕ) → sum_by (untaken x) accounts + bit (is_taken (state_of names x)) ≤ 1
  pub tie : (x : ℕ) (v : Option Addr) → sum_by (holding x v) accounts + bit (means v (state_of names x)) ≡ standing x v calls

pub record SpanFacts (owned : SpanRef → ℕ) (heap : List Run) (spans : List SpanRef) (accounts : List Account) : Type 0 where
  pub map : (r : Run) → spans_of_run r spans + sum_by (off_map r) accounts ≡ runs_like r heap
  pub own : (k : ℕ) (r : Run) → owned (small (class_number k) r) + sum_by (transit (small (class_number k) r)) accounts ≡ spans_like (small (class_number k) r) spans
  pub clear : (r : Run) → sum_by (clearing (large r)) accounts ≤ spans_like (large r) spans

pub record PlaceFacts (rows : List ClassRow) (g : Stock) (heap : List Run) (names : List NameState) (accounts : List Account) : Type 0 where
  pub places : (n : ℕ) → sum_by (held_at n) accounts + sum_by (named_at n) names + over_classes rows (λ k. g.stored k n) + g.begins n ≡ over_classes rows (λ k. g.objects k n) + runs_at n heap
  pub begins : (n : ℕ) → g.begins n + sum_by (λ (a : Account). spans_at n a.apart) accounts ≤ runs_at n heap
  pub classes : (k n : ℕ) → sum_by (in_hand k n) accounts + g.stored k n ≤ g.objects k n

more_cases : (r q : Run) (heap : List Run) → 0 < runs_like q (r ∷ heap) → (r ≡ q) ⊎ (0 < runs_like q heap)
more_cases r q heap some = grind (arith, cases_Bool, same_run_is)

flip_and : (p q : Bool) → (p && q) ≡ false → (q && p) ≡ false
flip_and p q is = grind (arith)

pub meets_flip : (x y : Extent) → meets x y ≡ false → meets y x ≡ false
meets_flip x y apart = flip_and (ltb x.addr (y.addr + y.len)) (ltb y.addr (x.addr + x.len)) apart

module _ {m : Setup} {b : Books} {calls : List CallLine} (f : Facts m b calls) where
  pub heap_facts : HeapFacts m.huge b.heap
  heap_facts = record { inside = f.inside; disjoint = f.disjoint; starts = f.starts }

  -- a new run, and one that goes
  pub heap_more : (n : ℕ) (r : Run) → IsPlaced m.huge b.heap n r → HeapFacts m.huge (r ∷ b.heap)
  heap_more n r placed = grind (arith, nat_tests, more_cases, false≢true, same_run_refl, meets_flip)

  pub heap_less : (r : Run) → 0 < runs_like r b.heap → HeapFacts m.huge (less r b.heap)
  heap_less r there =
      let fewer : (q : Run) → 0 < runs_like q (less r b.heap) → 0 < runs_like q b.heap = λ q live. let e = less_counts r b.heap there (like q) in omega (arith, e, live) in
      record {
        inside = λ q live. f.inside q (fewer q live);
        disjoint = λ q x live live'. f.disjoint q x (fewer q live) (fewer x live');
        starts = λ k. let e = less_counts r b.heap there (starting k) in omega (arith, e, f.starts k);
      }

  module _ (t : ℕ) (a w : Account) (at : slice_get b.accounts t ≡ Some a) where
    -- an account that has as much to do with labels as before
    pub labels_still : ((x : ℕ) → pending x w ≡ pending x a) → ((x : ℕ) → unpublished x w ≡ unpublished x a) → ((x : ℕ) → untaken x w ≡ untaken x a)
        → ((x : ℕ) → mentions x w ≡ mentions x a) → ((x : ℕ) (v : Option Addr) → holding x v w ≡ holding x v a)
        → LabelFacts m.labels b.names (slice_set b.accounts t w) calls
    labels_still p u n k h = grind (arith, shift)

    -- and one with as much of runs and spans, where shards and calls may exchange spans
    pub spans_still : (owned : SpanRef → ℕ) → ((r : Run) → off_map r w ≡ off_map r a) → ((s : SpanRef) → owned s + transit s w ≡ b.stock.owned s + transit s a)
        → ((s : SpanRef) → clearing s w ≡ clearing s a) → SpanFacts owned b.heap b.spans (slice_set b.accounts t w)
    spans_still owned o s c = grind (arith, shift)

    -- and one with as much of addresses
    pub places_still : ((n : ℕ) → held_at n w ≡ held_at n a) → ((n : ℕ) → spans_at n w.apart ≡ spans_at n a.apart)
        → ((k n : ℕ) → in_hand k n w ≡ in_hand k n a) → PlaceFacts m.rows b.stock b.heap b.names (slice_set b.accounts t w)
    places_still h s k = grind (arith, shift)

    -- a large block still is one, and all blocks still stand
    pub large_still : (stock : Stock) (heap : List Run) (spans : List SpanRef) (names : List NameState) (x : Extent) (l : IsLarge b x)
        → 0 < runs_like l.run heap → ((k : ℕ) → spans_like (small (class_number k) l.run) spans ≡ 0)
        → spans_of_run l.run w.apart ≡ 0 → IsLarge (books_with b stock heap spans names t w) x
    large_still stock heap spans names x l live unmapped own = grind (arith, set_cases)

    pub still : (heap : List Run) (spans : List SpanRef) (names : List NameState)
        → ((x : Extent) (l : IsLarge b x) → (0 < runs_like l.run heap) × ((k : ℕ) → spans_like (small (class_number k) l.run) spans ≡ 0) × (spans_of_run l.run w.apart ≡ 0))
        → All (IsStanding m.rows (books_with b b.stock heap spans names t w)) (blocks_after calls)
    still heap spans names larges = All-weaken (IsStanding m.rows b) (IsStanding m.rows (books_with b b.stock heap spans names t w)) (blocks_after calls) (λ x stands. elim stands [
      | inl l ↦ let stays = larges x l in inl (large_still b.stock heap spans names x l stays.0 stays.1 stays.2)
      | inr o ↦ inr (record { class = o.class; object = o.object; size = o.size })
    ]) f.live

    pub selves_with : IsSelf m w → (i : ℕ) (x : Account) → slice_get (slice_set b.accounts t w) i ≡ Some x → IsSelf m x
    selves_with self i x is = elim (set_cases b.accounts t a w at i x is) [ inl same ↦ subst (IsSelf m) same self | inr old ↦ f.selves i x old ]

    -- all groups together
    pub moved : (stock : Stock) (heap : List Run) (spans : List SpanRef) (names : List NameState) (after : List CallLine) → AreKept (length_of m.rows) m.huge after
        → All (IsStanding m.rows (books_with b stock heap spans names t w)) (blocks_after after) → HeapFacts m.huge heap → IsCut m.rows stock → IsSelf m w
        → LabelFacts m.labels names (slice_set b.accounts t w) after
        → SpanFacts stock.owned heap spans (slice_set b.accounts t w) → PlaceFacts m.rows stock heap names (slice_set b.accounts t w)
        → Facts m (books_with b stock heap spans names t w) after
    moved stock heap spans names after kept live h cut self l s p = grind (arith, selves_with)
