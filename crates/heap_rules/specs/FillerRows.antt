-- (huge_filler) The filler's choice, over a list of rows.
use Rattle.std.specs.Prelude.{ℕ, ◌+◌, ◌*◌, Bool, nat_le, List, filter, Option, option_map, option_and_then}
use Rattle.std.specs.Ordering.{nat_cmp, ordering_then, is_lt}
use Rattle.tc_units.specs.Units.{huge_pages}
use Rattle.range_bits.specs.Ranges.{best, longest, first_least}

-- a hugepage of the filler: its number, its tier, how many live runs have a page in it, and which of its pages are used
pub record FillerRow : Type 0 where
  pub number : ℕ
  pub tier : ℕ
  pub allocs : ℕ
  pub used : List Bool

-- the order in which the filler prefers rows: by tier, then by least longest range, then by most allocations, then by number
abbrev pub is_preferred : FillerRow → FillerRow → Bool
is_preferred a b = is_lt (ordering_then (nat_cmp a.tier b.tier) (ordering_then (nat_cmp (longest a.used) (longest b.used)) (ordering_then (nat_cmp b.allocs a.allocs) (nat_cmp a.number b.number))))

-- whether a row has n adjacent unused pages
abbrev pub has_room : ℕ → FillerRow → Bool
has_room n row = nat_le n (longest row.used)

-- the first page for n pages: in the preferred row with room, at the start of its shortest maximal unused range that is long enough
abbrev pub filler_place : List FillerRow → ℕ → Option ℕ
filler_place rows n =
    let chosen = first_least is_preferred (filter (has_room n) rows) in
    option_and_then (λ (row : FillerRow). option_map (λ start. huge_pages * row.number + start) (best row.used n)) chosen
