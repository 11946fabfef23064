-- Of two free ranges, the one that a search for the shortest keeps.
use Rattle.std.specs.Prelude.{nat_le, Option, Some, None, if◌then◌else◌}
use Rattle.range_bits.specs.declared.ranges.FreeRange.{FreeRange}

-- the shorter of two ranges: the earlier one where both are as short
abbrev pub shorter_of : Option FreeRange → FreeRange → FreeRange
shorter_of None range = range
shorter_of (Some earlier) range = if nat_le earlier.len range.len then earlier else range
