-- The order in which regions are preferred.
use Rattle.std.specs.Prelude.{Bool, nat_lt}
use Rattle.sorted_list.specs.Order.{first_by}
use Rattle.huge_region.specs.declared.key.RegionKey.{RegionKey}

-- the shorter longest range first, and of equal ones the least first hugepage
abbrev pub comes_before : RegionKey → RegionKey → Bool
comes_before a b = first_by a.longest b.longest (nat_lt a.first.0 b.first.0)

abbrev pub sample : RegionKey
sample = record { longest = 0; first = record { 0 = 0 } }
