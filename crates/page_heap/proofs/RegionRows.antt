-- The rows of a heap's regions: which one has a hugepage, and what a run that comes or leaves makes of them.
use Rattle.std.proofs.Common.{◌≡◌, ℕ, zero, suc, ◌+◌, ◌-◌, ◌*◌, ◌/◌, ◌<◌, ◌≤◌, ◌==◌, Bool, true, false, cond, List, [], ◌∷◌}
use Rattle.std.proofs.Common.{get_or, map, count_by, Contains, Option, Some, None, option_map, refl, sym, ap, ◌∙◌, inl, inr, arith}
use Rattle.page_heap.proofs.Common.{find, cases_Bool, cases_eq, false≢true, false_from_ne_true, ne_eqb, same_lists, length-map-range_with_len}
use Rattle.page_heap.proofs.Common.{get_or-map-range_with_len, All-contains, Contains-get_or, none-some, same_Some, Run, with_places, length-with_places}
use Rattle.page_heap.proofs.Common.{get_or-with_places, RegionRow, Heap, Hugepage, hugepage, is_used, is_region, spans, region_row_of, IsRegion, IsSound}
use Rattle.page_heap.proofs.Common.{holds_parts, holds_from, spans_from, same_member, region_with, with_changed, regions_of, nat_tests}
use Rattle.range_bits.proofs.BitFacts.{is_between}
use Rattle.heap_rules.specs.Heap.{holds, used_from}
use Rattle.page_heap.proofs.Steps.{IsStep, used-away, row-away}
use Rattle.page_heap.proofs.Frames.{map_same, map-map}

-- The region of a hugepage.
find_row : (heap : Heap) (h : ℕ) (rs : List ℕ) → find (λ (row : RegionRow). spans heap.config.region h row.first)
    (map (region_row_of heap) rs) ≡ option_map (region_row_of heap) (find (spans heap.config.region h) rs)
find_row heap h [] = refl
find_row heap h (r ∷ rs) = grind (arith, find_row heap h rs)

first_found : (p : ℕ → Bool) (rs : List ℕ) (r : ℕ) → Contains rs r → p r ≡ true → (s : ℕ) × (find p rs ≡ Some s)
first_found p [] r has e = absurd (omega (arith, has.1))
first_found p (x ∷ xs) r (zero, l, at) e = (x, rw (ap p at ∙ e) refl)
first_found p (x ∷ xs) r (suc k, l, at) e = elim (cases_Bool (p x)) [
  | inl t ↦ (x, rw t refl)
  | inr f ↦ (let rest = first_found p xs r (k, omega arith, at) e in (rest.0, rw f rest.1))
]

found_member : (p : ℕ → Bool) (rs : List ℕ) (s : ℕ) → find p rs ≡ Some s → Contains rs s × (p s ≡ true)
found_member p [] s e = absurd (none-some s e)
found_member p (x ∷ xs) s e = elim (cases_Bool (p x)) [
  | inl t ↦ (let same : x ≡ s = same_Some x s (sym (ap (λ b. cond b (Some x) (find p xs)) t) ∙ e) in ((0, omega arith, same), ap p (sym same) ∙ t))
  | inr f ↦ (let rest = found_member p xs s (sym (ap (λ b. cond b (Some x) (find p xs)) f) ∙ e) in ((suc rest.0.0, omega (arith, rest.0.1), rest.0.2), rest.1))
]

pub region_found : (heap : Heap) (r h : ℕ) → count_by (spans heap.config.region h) heap.regions ≤ 1 → Contains heap.regions r →
    spans heap.config.region h r ≡ true → region_with (regions_of heap) h ≡ Some (region_row_of heap r)
region_found heap r h most known e =
    let there = first_found (spans heap.config.region h) heap.regions r known e in
    let is = found_member (spans heap.config.region h) heap.regions there.0 there.1 in
    let same : there.0 ≡ r = same_member (spans heap.config.region h) heap.regions there.0 r is.0 known is.1 e most in
    find_row heap h heap.regions ∙ ap (option_map (region_row_of heap)) there.1 ∙ ap (λ s. Some (region_row_of heap s)) same

-- a region that is found is the heap's
pub record IsOf (heap : Heap) (h : ℕ) (row : RegionRow) : Type 0 where
  pub region : ℕ
  pub known : Contains heap.regions region
  pub spanned : spans heap.config.region h region ≡ true
  pub row_is : region_row_of heap region ≡ row

pub region_of_row : (heap : Heap) (h : ℕ) (row : RegionRow) → region_with (regions_of heap) h ≡ Some row → IsOf heap h row
region_of_row heap h row e = of_found (find (spans heap.config.region h) heap.regions) refl
  where
    of_found : (o : Option ℕ) → find (spans heap.config.region h) heap.regions ≡ o → IsOf heap h row
    of_found None none = absurd (none-some row (sym (find_row heap h heap.regions ∙ ap (option_map (region_row_of heap)) none) ∙ e))
    of_found (Some r) some =
        let is = found_member (spans heap.config.region h) heap.regions r some in
        record { region = r; known = is.0; spanned = is.1; row_is = same_Some (region_row_of heap r) row (sym (find_row heap h heap.regions ∙ ap (option_map (region_row_of heap)) some) ∙ e) }

pub region_missing : (heap : Heap) (h : ℕ) → IsSound heap → is_region (hugepage heap h) ≡ false → region_with (regions_of heap) h ≡ None
region_missing heap h sound other = of_found (region_with (regions_of heap) h) refl
  where
    of_found : (o : Option RegionRow) → region_with (regions_of heap) h ≡ o → o ≡ None
    of_found None e = refl
    of_found (Some row) e =
        let is = region_of_row heap h row e in
        absurd (false≢true (sym other ∙ (All-contains (IsRegion heap) heap.regions is.region sound.regions is.known).kinds h is.spanned))

-- the pages of a range, of which a run has some from a start on, and is used there or isn't
pub row_put : (runs rest : List Run) (run : Run) (b : Bool) → IsStep runs rest run → ((page : ℕ) → holds page run ≡ true → is_used rest page ≡ b) →
    (first many s : ℕ) → run.first.0 ≡ first + s → s + run.pages ≤ many → with_places (used_from runs first many) s run.pages b ≡ used_from rest first many
row_put runs rest run b step own first many s at fits =
    grind (arith, nat_tests, length-map-range_with_len, length-with_places, same_lists, get_or-map-range_with_len, get_or-with_places, is_between, holds_from, holds_parts, used-away)

-- A run comes to a region, or leaves one.
module _ (heap : Heap) (rest : List Run) (hugepages : List Hugepage) (run : Run) (b : Bool) (step : IsStep heap.runs rest run) (own : (page : ℕ) → holds page run ≡ true → is_used rest page ≡ b) where
  abbrev after : Heap
  after = record heap { runs = rest; hugepages = hugepages }

  pub regions_changed : (r : ℕ) → ((h : ℕ) → count_by (spans heap.config.region h) heap.regions ≤ 1) → Contains heap.regions r → 256 * r ≤ run.first.0 →
      run.first.0 + run.pages ≤ 256 * (r + heap.config.region) → 0 < heap.config.region →
      with_changed (regions_of heap) r (λ (x : RegionRow). record { first = x.first; used = with_places x.used (run.first.0 - 256 * r) run.pages b }) ≡
      regions_of after
  regions_changed r apart known from to wide =
      let width : ℕ = heap.config.region in
      let change : RegionRow → RegionRow = λ x. record { first = x.first; used = with_places x.used (run.first.0 - 256 * r) run.pages b } in
      let g : RegionRow → RegionRow = λ x. cond (x.first == r) (change x) x in
      ap (λ (rows : List RegionRow). record (regions_of heap) { rows = rows })
      (map-map g (region_row_of heap) heap.regions
      ∙ map_same (λ s. g (region_row_of heap s)) (region_row_of after) heap.regions
      (λ k d l.
      (let s = get_or heap.regions k d in
      elim (cases_eq s r) [
        | inl same ↦ grind (arith, nat_tests, row_put)
        | inr other ↦
            ap (λ (t : Bool). cond t (change (region_row_of heap s)) (region_row_of heap s)) (ne_eqb s r other)
            ∙ ap (λ (row : List Bool). let x : RegionRow = record { first = s; used = row } in x)
            (sym (row-away heap.runs rest run step (256 * s) (256 * width) (λ page a c.
            false_from_ne_true _ (λ t.
            let h : ℕ = page / 256 in
            let parts = holds_parts page run t in
            let mine = spans_from width h r (omega (arith, parts.0)) (omega (arith, parts.1)) in
            other (same_member (spans width h) heap.regions s r (Contains-get_or heap.regions k d l) known (spans_from width h s (omega arith) (omega arith)) mine (apart h))))))
      ])))
