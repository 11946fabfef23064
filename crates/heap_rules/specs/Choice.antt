-- What the filler, the cache and the regions see of a heap.
use Rattle.std.specs.Prelude.{ℕ, ◌+◌, ◌-◌, ◌/◌, Bool, not, List, filter, map, Option}
use Rattle.tc_units.specs.Units.{huge_pages}
use Rattle.heap_rules.specs.Heap.{Heap, hugepage, numbers, used_row, allocation_count, tier, is_free, is_filler, is_free_backed, region_row}
use Rattle.heap_rules.specs.FillerRows.{FillerRow}
use Rattle.heap_rules.specs.CacheFlags as cache
use Rattle.heap_rules.specs.RegionRows.{RegionRow}

-- the filler's rows
abbrev pub filler_rows : Heap → List FillerRow
filler_rows heap =
    let row : ℕ → FillerRow = λ h. record { number = h; tier = tier (hugepage heap h); allocs = allocation_count heap.runs h; used = used_row heap.runs h } in
    map row (filter (λ h. is_filler (hugepage heap h)) (numbers heap))

-- whether each hugepage isn't free, and isn't free and backed
abbrev pub taken_row : Heap → List Bool
taken_row heap = map (λ x. not (is_free x)) heap.hugepages

abbrev pub unready_row : Heap → List Bool
unready_row heap = map (λ x. not (is_free_backed x)) heap.hugepages

abbrev pub run_choice : Heap → ℕ → Option ℕ
run_choice heap many = cache.run_choice (taken_row heap) (unready_row heap) many

-- the regions' rows
abbrev pub region_rows : Heap → List RegionRow
region_rows heap = map (λ r. record { first = r; used = region_row heap.runs heap.config.region r }) heap.regions

-- the hugepages that n pages need
abbrev pub hugepages_for : ℕ → ℕ
hugepages_for n = (n + (huge_pages - 1)) / huge_pages
