use Rattle.std.proofs.Common.{◌-◌, ◌*◌, ◌≤◌, length}
use Rattle.range_bits.proofs.Common.{row_of}
use Rattle.range_bits.proofs.Scan.{IsLongest}
use Rattle.range_bits.proofs.ranges.longest_range.Given as goal

abbrev pub invariant-loop-from : goal.invariant-loop-from
invariant-loop-from l = record {
  inside : l.from ≤ 64 * length l.words;
  longest : IsLongest (row_of l.words) l.from l.longest;
}

abbrev pub decreases-loop-from : goal.decreases-loop-from
decreases-loop-from l = 64 * length l.words - l.from
