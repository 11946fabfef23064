-- The filler's choice by its measures is that of the heap.
use Rattle.std.proofs.Common.{◌≡◌, ℕ, ◌+◌, ◌-◌, ◌<◌, ◌≤◌, true, false, List, [], ◌∷◌, length}
use Rattle.std.proofs.Common.{get_or, filter, All, Contains, Option, Some, refl, sym, ap, subst, ◌∙◌, inl, inr, arith}
use Rattle.page_heap.proofs.Common.{range_with_len, cases_Bool, cases_eq, leb-true, le-leb, length-map, get_or-map}
use Rattle.page_heap.proofs.Common.{length-range_with_len, get_or-range_with_len, none-some, same_Some, Run, first_least, Heap}
use Rattle.page_heap.proofs.Common.{Hugepage, hugepage, numbers, longest_range, is_filler, FillerRow, filler_row, filler_rows, IsHugepageOf, IsRowWithRoom}
use Rattle.page_heap.proofs.Common.{rows_fit, filter_holds, Huge, Measures, measures_at, prefers, IsPreferred, measures_of, measured, measures, nat_tests}
use Rattle.heap_rules.specs.FillerRows.{is_preferred, has_room}
use Rattle.range_bits.proofs.Least.{least_is_first}
use Rattle.page_heap.proofs.Frames.{length-measures, measures_there, measured_none, measured_some}

-- No two are each before the other.
one_way : (a b : FillerRow) → is_preferred a b ≡ true → is_preferred b a ≡ false
one_way a b e = grind (arith, nat_tests)

listed_at : (m h : ℕ) → 0 < h → h ≤ m → Contains (range_with_len 1 m) h
listed_at m h from to = (let size = length-range_with_len 1 m in let at : 1 + (h - 1) ≡ h = omega arith in (h - 1, omega arith, get_or-range_with_len 1 m (h - 1) h (omega arith) ∙ at))

short : (k a b : ℕ) → k < a → b ≡ a → k < b
short k a b l e = omega arith

contra : (a n : ℕ) → a < n → n ≤ a → ⊥
contra a n l m = omega arith

module _ (heap : Heap) (n : ℕ) where
  -- a row of the filler by its number
  pub row_there : (h : ℕ) → 0 < h → h ≤ length heap.hugepages → is_filler (hugepage heap h) ≡ true → n ≤ longest_range heap.runs h →
      Contains (filter (has_room n) (filler_rows heap)) (filler_row heap h)
  row_there h from to own room =
      let fillers = filter (λ k. is_filler (hugepage heap k)) (numbers heap) in
      let kept : Contains fillers h = filter_holds (λ k. is_filler (hugepage heap k)) (numbers heap) h (listed_at (length heap.hugepages) h from to) own in
      let len = length-map fillers (filler_row heap) in
      let row : Contains (filler_rows heap) (filler_row heap h) =
      (kept.0, short _ _ _ kept.1 len, get_or-map (filler_row heap) fillers kept.0 h (filler_row heap h) kept.1 ∙ ap (filler_row heap) kept.2) in
      filter_holds (has_room n) (filler_rows heap) (filler_row heap h) row (le-leb n (longest_range heap.runs h) room)

  there : (row : FillerRow) (is : IsRowWithRoom heap n row) → measures_at (measures heap) is.number ≡ Some (measures_of heap.runs is.number (hugepage heap is.number))
  there row is = measures_there heap is.number is.fitting.from is.fitting.to ∙ measured_some heap.runs is.number (hugepage heap is.number) is.fitting.filler

  roomy : (row : FillerRow) (is : IsRowWithRoom heap n row) → n ≤ longest_range heap.runs is.number
  roomy row is = leb-true n (longest_range heap.runs is.number) (sym (ap (has_room n) is.row_is) ∙ is.room)

  -- the preferred one is the first row with room
  pub preferred_is : (huge : Huge) (is : IsPreferred (measures heap) n huge) → is_filler (hugepage heap huge.0) ≡ true →
      is.measures ≡ measures_of heap.runs huge.0 (hugepage heap huge.0) → huge.0 ≤ length heap.hugepages →
      first_least is_preferred (filter (has_room n) (filler_rows heap)) ≡ Some (filler_row heap huge.0)
  preferred_is huge is own its to =
      let h : ℕ = huge.0 in let rows = filter (has_room n) (filler_rows heap) in
      let has = row_there h is.from to own (subst (λ (m : Measures). n ≤ m.longest) its is.room) in
      least_is_first is_preferred (filler_row heap h) rows has
      (λ k d l.
      (let row = get_or rows k d in
      let fit : IsRowWithRoom heap n row = rows_fit heap n k d l in
      elim (cases_eq fit.number h) [
        | inl same ↦ inl (fit.row_is ∙ ap (filler_row heap) same)
        | inr other ↦
            (let first : is_preferred (filler_row heap h) (filler_row heap fit.number) ≡ true =
            subst (λ (m : Measures). prefers h m fit.number (measures_of heap.runs fit.number (hugepage heap fit.number)) ≡ true) its
            (is.first fit.number (measures_of heap.runs fit.number (hugepage heap fit.number)) (there row fit) (roomy row fit) other) in
            let before : is_preferred (filler_row heap h) row ≡ true = ap (is_preferred (filler_row heap h)) fit.row_is ∙ first in
            inr (before, one_way (filler_row heap h) row before))
      ]))

  -- and where none is preferred, none has room
  pub none_there : ((h : ℕ) (its : Measures) → measures_at (measures heap) h ≡ Some its → its.longest < n) → filter (has_room n) (filler_rows heap) ≡ []
  none_there none = no_element (filter (has_room n) (filler_rows heap)) (λ k d l.
      (let row = get_or (filter (has_room n) (filler_rows heap)) k d in
      let fit : IsRowWithRoom heap n row = rows_fit heap n k d l in
      contra _ n (none fit.number (measures_of heap.runs fit.number (hugepage heap fit.number)) (there row fit)) (roomy row fit)))
    where
      no_element : {X : Type 0} (xs : List X) → All (λ x. ⊥) xs → xs ≡ []
      no_element [] h = refl
      no_element (x ∷ xs) h = absurd (h 0 x (omega arith))

-- What the filler's answer says of the heap.
pub record IsFound (heap : Heap) (n h : ℕ) : Type 0 where
  pub own : IsHugepageOf heap.config.huge h
  pub filler : is_filler (hugepage heap h) ≡ true
  pub room : n ≤ longest_range heap.runs h
  pub first : first_least is_preferred (filter (has_room n) (filler_rows heap)) ≡ Some (filler_row heap h)

its_filler : (runs : List Run) (h : ℕ) (x : Hugepage) (its : Measures) → measured runs h x ≡ Some its → (is_filler x ≡ true) × (its ≡ measures_of runs h x)
its_filler runs h x its e = elim (cases_Bool (is_filler x)) [
  | inl t ↦ (t, same_Some its (measures_of runs h x) (sym e ∙ measured_some runs h x t))
  | inr f ↦ absurd (none-some its (sym (measured_none runs h x f) ∙ e))
]

pub its_there : (heap : Heap) (h : ℕ) (its : Measures) → 0 < h → h ≤ length heap.hugepages → measures_at (measures heap) h ≡ Some its →
    (is_filler (hugepage heap h) ≡ true) × (its ≡ measures_of heap.runs h (hugepage heap h))
its_there heap h its from to e = its_filler heap.runs h (hugepage heap h) its (sym (measures_there heap h from to) ∙ e)

pub found : (heap : Heap) (rows : List (Option Measures)) (n : ℕ) (huge : Huge) → length heap.hugepages ≡ heap.config.huge → rows ≡ measures heap → IsPreferred rows n huge → IsFound heap n huge.0
found heap rows n huge arena e given =
    let is = subst (λ all. IsPreferred all n huge) e given in let size = length-measures heap in
    let to : huge.0 ≤ length heap.hugepages = omega (arith, is.to) in
    let its = its_there heap huge.0 is.measures is.from to is.row in
    record {
      own = record { from = is.from; to = omega arith };
      filler = its.0;
      room = subst (λ (m : Measures). n ≤ m.longest) its.1 is.room;
      first = preferred_is heap n huge is its.0 its.1 to;
    }
