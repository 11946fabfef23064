-- (huge_region) The choice of a region, over a list of regions.
use Rattle.std.specs.Prelude.{ℕ, ◌+◌, ◌*◌, Bool, nat_le, List, filter, Option, option_map, option_and_then}
use Rattle.std.specs.Ordering.{nat_cmp, ordering_then, is_lt}
use Rattle.tc_units.specs.Units.{huge_pages}
use Rattle.range_bits.specs.Ranges.{best, longest, first_least}

-- a region: its first hugepage, and which of its pages are used
pub record RegionRow : Type 0 where
  pub first : ℕ
  pub used : List Bool

-- the preferred region: that of least longest range, and of equal ones that of least first hugepage
abbrev pub is_preferred : RegionRow → RegionRow → Bool
is_preferred a b = is_lt (ordering_then (nat_cmp (longest a.used) (longest b.used)) (nat_cmp a.first b.first))

abbrev pub has_room : ℕ → RegionRow → Bool
has_room n row = nat_le n (longest row.used)

-- the first page for n pages: in the preferred region with room, at the start of its shortest maximal unused range that is long enough
abbrev pub region_place : List RegionRow → ℕ → Option ℕ
region_place rows n =
    let chosen = first_least is_preferred (filter (has_room n) rows) in
    option_and_then (λ (row : RegionRow). option_map (λ start. huge_pages * row.first + start) (best row.used n)) chosen
