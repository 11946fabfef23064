-- Unused hugepages of regions that are backed: which is the last.
use Rattle.std.proofs.Common.{◌≡◌, ℕ, ◌<◌, ◌≤◌, true, false, ◌==◌, ◌&&◌, length, Some, None, sym, ap, ◌∙◌, inl, inr, arith}
use Rattle.page_heap.proofs.Common.{cases_Bool, cases_lt, and_left, get_or_past, none-some, RowView, Heap, hugepage}
use Rattle.page_heap.proofs.Common.{row_of, is_kind, used_count, is_region, RegionRow, region_row_of, is_idle, IsHugepageOf, IsSound}
use Rattle.page_heap.proofs.Common.{serves_at, spans_parts, is_Region, Regions, region_with, Inside, regions_of, nat_tests}
use Rattle.tc_units.specs.declared.rows.RowKind.TheVariants as kind
use Rattle.page_heap.proofs.Measured.{backed_whole}
use Rattle.page_heap.proofs.RegionRows.{region_found, region_of_row}
use Rattle.page_heap.proofs.Results.{IsHeap}

-- a region's hugepage is one of the arena, and has a region
region_own : (heap : Heap) (h : ℕ) → is_region (hugepage heap h) ≡ true → (0 < h) × (h ≤ length heap.hugepages)
region_own heap h e = grind (arith, nat_tests, get_or_past)

no_region : (heap : Heap) (h : ℕ) → IsSound heap → region_with (regions_of heap) h ≡ None → is_region (hugepage heap h) ≡ false
no_region heap h sound none = elim (cases_Bool (is_region (hugepage heap h))) [
  | inr f ↦ f
  | inl t ↦
      (let inside = region_own heap h t in
      let own : IsHugepageOf heap.config.huge h = record { from = inside.0; to = omega (arith, inside.1) } in
      let lies = (serves_at heap.runs heap.regions heap.config.region h (hugepage heap h) kind.Region (is_Region (hugepage heap h).kind t) (sound.runs.fit h own)).0 in
      absurd (none-some (region_row_of heap lies.region) (sym none ∙ region_found heap lies.region h (sound.runs.apart h) lies.known lies.spanned)))
]

not_idle : (heap : Heap) (h : ℕ) → is_region (hugepage heap h) ≡ false → is_idle heap h ≡ false
not_idle heap h e = and_left _ _ (and_left _ _ e)

-- as it is shown
pub idle_shown : (heap : Heap) (h : ℕ) (row : RowView) → IsSound heap → IsHugepageOf heap.config.huge h → row ≡ row_of heap h →
    (is_kind kind.Region row.kind && row.used == 0 && row.backed == 256) ≡ is_idle heap h
idle_shown heap h row sound own e = rw e (ap (λ b. is_region (hugepage heap h) && used_count heap.runs h == 0 && b) (backed_whole heap sound h own))

-- where no region has a hugepage, it isn't idle
pub idle_nowhere : {t : Inside} {heap : Heap} → IsHeap t heap → (h : ℕ) → region_with t.regions h ≡ None → is_idle heap h ≡ false
idle_nowhere {t} {heap} is h none = not_idle heap h (no_region heap h is.well.sound (ap (λ (all : Regions). region_with all h) (sym is.shows.regions) ∙ none))

pub idle_past : {t : Inside} {heap : Heap} → IsHeap t heap → (h : ℕ) → heap.config.huge < h → is_idle heap h ≡ false
idle_past {t} {heap} is h past = elim (cases_Bool (is_region (hugepage heap h))) [
  | inl e ↦ absurd (let inside = region_own heap h e in let arena = is.well.sound.runs.arena in omega (arith, inside.1))
  | inr e ↦ not_idle heap h e
]

pub region_there : {t : Inside} {heap : Heap} → IsHeap t heap → (h : ℕ) → (row : RegionRow) × (region_with t.regions h ≡ Some row) → IsHugepageOf heap.config.huge h
region_there {t} {heap} whole h (row, found) =
    let of = region_of_row heap h row (ap (λ (all : Regions). region_with all h) (sym whole.shows.regions) ∙ found) in
    grind (arith, spans_parts heap.config.region h of.region of.spanned)

-- none behind a hugepage, where none is behind a number and no region has one in between
pub idle_behind : {t : Inside} {heap : Heap} → IsHeap t heap → (huge above : ℕ) → ((h : ℕ) → huge < h → h ≤ above → region_with t.regions h ≡ None) →
    ((h : ℕ) → above < h → is_idle heap h ≡ false) → (h : ℕ) → huge < h → is_idle heap h ≡ false
idle_behind is huge above between past h l = elim (cases_lt above h) [ inl far ↦ past h far | inr near ↦ idle_nowhere is h (between h l near) ]
