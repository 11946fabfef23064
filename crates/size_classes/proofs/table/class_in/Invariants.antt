-- All sizes before the lower end are below, and none from the upper end on is.
use Rattle.std.proofs.Common.{◌-◌, ◌<◌, ◌≤◌, ℕ, length, get_or}
use Rattle.size_classes.specs.Rows.{sizes_of}
use Rattle.size_classes.proofs.table.class_in.Given as goal

abbrev pub invariant-loop-low : goal.invariant-loop-low
invariant-loop-low l = record {
  order : l.low ≤ l.high;
  within : l.high ≤ length l.rows;
  below : (k : ℕ) → k < l.low → get_or (sizes_of l.rows) k 0 < l.size;
  above : (k : ℕ) → l.high ≤ k → k < length l.rows → l.size ≤ get_or (sizes_of l.rows) k 0;
}

abbrev pub decreases-loop-low : goal.decreases-loop-low
decreases-loop-low l = l.high - l.low
