-- The regions: what contracts see of them, and what a run's coming and leaving make of one.
use Rattle.std.specs.Prelude.{◌≡◌, ℕ, ◌-◌, ◌*◌, ◌/◌, ◌≤◌, Bool, true, false, ◌==◌, List, map, replicate, find, Option, Some, if◌then◌else◌}
use Rattle.tc_units.specs.Units.{huge_pages}
use Rattle.tc_units.specs.Sorted.{with_item, without_key}
use Rattle.range_bits.specs.Ranges.{used_count, free_from, used_from, with_places}
use Rattle.heap_rules.specs.Heap.{spans}
use Rattle.heap_rules.specs.RegionRows.{RegionRow}

-- the arena's hugepages, the hugepages of a region, and the regions' rows in the order of their first hugepages
pub record Regions : Type 0 where
  pub huge : ℕ
  pub width : ℕ
  pub rows : List RegionRow

-- the region that has hugepage h
abbrev pub region_with : Regions → ℕ → Option RegionRow
region_with all h = find (λ r. spans all.width h r.first) all.rows

-- the regions with one of them changed, by its first hugepage
abbrev pub with_changed : Regions → ℕ → (RegionRow → RegionRow) → Regions
with_changed all first change = record all { rows = map (λ r. if r.first == first then change r else r) all.rows }

-- a region without used pages, the regions with such a one, and without one
abbrev pub unused : ℕ → ℕ → RegionRow
unused width first = record { first = first; used = replicate (huge_pages * width) false }

abbrev pub with_region : Regions → ℕ → Regions
with_region all first = record all { rows = with_item (λ r. r.first) (unused all.width first) all.rows }

abbrev pub without_region : Regions → ℕ → Regions
without_region all first = record all { rows = without_key (λ r. r.first) first all.rows }

-- a region where a run of n pages has come, and where one has left
abbrev pub joined : ℕ → ℕ → RegionRow → RegionRow
joined start n r = record { first = r.first; used = with_places r.used start n true }

abbrev pub left : ℕ → ℕ → RegionRow → RegionRow
left start n r = record { first = r.first; used = with_places r.used start n false }

-- where a page stands in a region, by its number
abbrev pub start_in : RegionRow → ℕ → ℕ
start_in r page = page - huge_pages * r.first

-- n unused pages, or used ones, from a page on, all of them of one region
pub record AreFreeIn (all : Regions) (page n : ℕ) (r : RegionRow) : Type 0 where
  pub row : region_with all (page / huge_pages) ≡ Some r
  pub free : n ≤ free_from r.used (start_in r page)

pub record AreUsedIn (all : Regions) (page n : ℕ) (r : RegionRow) : Type 0 where
  pub row : region_with all (page / huge_pages) ≡ Some r
  pub used : n ≤ used_from r.used (start_in r page)

-- whether no page of a region is used
abbrev pub is_unused : RegionRow → Bool
is_unused r = used_count r.used == 0
