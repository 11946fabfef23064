-- What holds of regions at every moment, and what is kept beside them.
use Rattle.std.specs.Prelude.{◌≡◌, ℕ, ◌+◌, ◌*◌, ◌/◌, ◌≤◌, false, List, [], ◌∷◌, length, replicate, All, vec_capacity}
use Rattle.tc_units.specs.Units.{huge_pages}
use Rattle.range_bits.specs.Ranges.{longest}
use Rattle.sorted_list.specs.Contents.{Contents}
use Rattle.sorted_list.specs.Rows.{IsIndexOf}
use Rattle.heap_rules.specs.RegionRows.{RegionRow}
use Rattle.huge_region.specs.declared.key.RegionKey.{RegionKey}
use Rattle.huge_region.specs.declared.regions.HugeRegions.TheInside.{Inside}
use Rattle.huge_region.specs.Regions.{Regions}

-- rows of regions of so many hugepages, none of which begins before a hugepage, nor before the one in front of it ends
abbrev pub AreApartFrom : ℕ → ℕ → List RegionRow → Type 0
AreApartFrom width from [] = Unit
AreApartFrom width from (r ∷ rows) = (from ≤ r.first) × AreApartFrom width (r.first + width) rows

-- regions are inside the arena, in the order of their numbers and apart
pub record IsSound (all : Regions) : Type 0 where
  pub small : all.huge ≤ 4096
  pub wide : 2 ≤ all.width
  pub narrow : all.width ≤ 512
  pub apart : AreApartFrom all.width 1 all.rows
  pub high : All (λ r. r.first + all.width ≤ all.huge + 1) all.rows
  pub sizes : All (λ r. length r.used ≡ huge_pages * all.width) all.rows

-- the key of a region: its longest range, and its first hugepage
abbrev pub key_of : RegionRow → RegionKey
key_of r = record { longest = longest r.used; first = record { 0 = r.first } }

-- whether no page of a region is used, wherever it is to begin
abbrev pub IsSpare : ℕ → RegionRow → Type 0
IsSpare width r = r.used ≡ replicate (huge_pages * width) false

-- The keys are those of the regions and no other. For each further region that the arena has room for there are unused pages,
-- and room for its key.
pub record IsKept (all : Regions) (keys : Contents RegionKey) (spare : List RegionRow) : Type 0 where
  pub sound : IsSound all
  pub keys_are : IsIndexOf key_of all.rows keys.keys
  pub room : keys.spare ≡ length spare
  pub rest : length all.rows + length spare ≡ all.huge / all.width
  pub unused : All (IsSpare all.width) spare

abbrev pub regions_of : Inside → Regions
regions_of t = record { huge = t.huge; width = t.width; rows = t.regions.items }

-- and there is room in both lists
abbrev pub IsInside : Inside → Type 0
IsInside t = IsKept (regions_of t) t.keys t.spare.items × (t.huge / t.width ≤ vec_capacity t.regions) × (t.huge / t.width ≤ vec_capacity t.spare)
