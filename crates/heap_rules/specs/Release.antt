-- Release: free hugepages give first, then unused ones of regions, then the filler's, each while fewer than n pages were unbacked.
use Rattle.std.specs.Prelude.{ℕ, ◌+◌, ◌-◌, ◌*◌, Bool, ◌==◌, ◌&&◌, ◌||◌, not, List, filter, map, count_by, sum_by, if◌then◌else◌}
use Rattle.std.specs.List.{list_all}
use Rattle.tc_units.specs.Units.{huge_pages}
use Rattle.tc_units.specs.declared.spans.Run.{Run}
use Rattle.heap_rules.specs.Heap.{Heap, Hugepage, hugepage, numbers, each, is_used, pages_of, used_count, backs, is_free, is_free_backed, is_region, is_filler}
use Rattle.heap_rules.specs.Settle.{unbacked}
use Rattle.heap_rules.specs.GiveUp.{gives_whole, SpareRow, gives_spare}

-- a heap after a step of a release, and how many pages that unbacked
pub record Released : Type 0 where
  pub heap : Heap
  pub pages : ℕ

-- hugepages that give all their pages, by their flags
abbrev pub whole_given : List Bool → Heap → ℕ → Released
whole_given flags heap n =
    let hugepages = each (λ h x. if gives_whole flags n h then unbacked x else x) heap.hugepages in
    record { heap = record heap { hugepages = hugepages }; pages = huge_pages * count_by (gives_whole flags n) (numbers heap) }

-- First free ones that are backed.
abbrev pub free_given : Heap → ℕ → Released
free_given heap n = whole_given (map is_free_backed heap.hugepages) heap n

-- Then those of regions without a used page that are backed.
abbrev pub is_idle : Heap → ℕ → Bool
is_idle heap h = is_region (hugepage heap h) && used_count heap.runs h == 0 && list_all (λ b. b) (hugepage heap h).backed

abbrev pub idle_given : Heap → ℕ → Released
idle_given heap n = whole_given (map (is_idle heap) (numbers heap)) heap n

-- Then the filler's, which back their used pages alone.
abbrev pub spare_pages : Heap → ℕ → ℕ
spare_pages heap h = count_by (λ page. backs (hugepage heap h) page && not (is_used heap.runs page)) (pages_of h)

abbrev pub spare_row : Heap → ℕ → SpareRow
spare_row heap h = record { number = h; used = used_count heap.runs h; spare = spare_pages heap h }

abbrev pub only_used : List Run → ℕ → Hugepage → Hugepage
only_used runs h x = record x { backed = map (λ page. backs x page && is_used runs page) (pages_of h) }

abbrev pub spare_given : Heap → ℕ → Released
spare_given heap n =
    let rows = map (spare_row heap) (filter (λ h. is_filler (hugepage heap h)) (numbers heap)) in
    let hugepages = each (λ h x. if is_filler x && gives_spare rows n (spare_row heap h) then only_used heap.runs h x else x) heap.hugepages in
    record { heap = record heap { hugepages = hugepages }; pages = sum_by (λ row. row.spare) (filter (gives_spare rows n) rows) }

-- A release of n pages, and how many it unbacked.
abbrev pub release : Heap → ℕ → Released
release heap n =
    let a = free_given heap n in
    let b = idle_given a.heap (n - a.pages) in
    let c = spare_given b.heap (n - (a.pages + b.pages)) in record c { pages = a.pages + b.pages + c.pages }

-- What there is to unback: the backed pages without a live run, of hugepages that are free, of the filler, or of a
-- region and without a used page.
abbrev pub may_give : Heap → ℕ → Bool
may_give heap h = is_free (hugepage heap h) || is_filler (hugepage heap h) || (is_region (hugepage heap h) && used_count heap.runs h == 0)

abbrev pub givable_pages : Heap → ℕ
givable_pages heap = sum_by (spare_pages heap) (filter (may_give heap) (numbers heap))
