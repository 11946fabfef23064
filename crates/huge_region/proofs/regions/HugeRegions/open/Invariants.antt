use Rattle.std.proofs.Common.{◌≡◌, ◌≤◌, All, length, vec_capacity}
use Rattle.huge_region.proofs.Common.{IsSpare}
use Rattle.huge_region.proofs.regions.HugeRegions.open.Given as goal

abbrev pub invariant-loop-made : goal.invariant-loop-made
invariant-loop-made l = record {
  unused : All (IsSpare l.width) l.spare.items;
  count : length l.spare.items ≡ l._made;
  room : l.room ≤ vec_capacity l.spare;
}
