use Rattle.std.proofs.Common.{◌≡◌, ℕ, ◌-◌, ◌<◌, ◌≤◌, false, length, get_or}
use Rattle.huge_filler.proofs.giving_order.GivingOrder.catch_up.Given as goal

abbrev pub invariant-loop-place : goal.invariant-loop-place
invariant-loop-place l = record {
  rows : l.self.rows ≡ l.fn.self.rows;
  from : l.from ≤ length l.self.rows;
  before : (k : ℕ) → k < l.from → get_or l.self.stale k false ≡ false;
}

abbrev pub decreases-loop-place : goal.decreases-loop-place
decreases-loop-place l = length l.self.rows - l.from
