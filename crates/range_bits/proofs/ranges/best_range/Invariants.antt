use Rattle.std.proofs.Common.{◌≡◌, ◌-◌, ◌*◌, ◌<◌, ◌≤◌, true, length, get_or, IfSome}
use Rattle.range_bits.proofs.Common.{row_of}
use Rattle.range_bits.proofs.Scan.{IsBest}
use Rattle.range_bits.proofs.ranges.best_range.Given as goal

abbrev pub invariant-loop-from : goal.invariant-loop-from
invariant-loop-from l = record {
  inside : l.from ≤ 64 * length l.words;
  edge : 0 < l.from → l.from < length (row_of l.words) → get_or (row_of l.words) l.from true ≡ true;
  best : IsBest (row_of l.words) l.n l.from l.found;
  longer : IfSome l.found (λ range. l.n < range.len);
}

abbrev pub decreases-loop-from : goal.decreases-loop-from
decreases-loop-from l = 64 * length l.words - l.from
