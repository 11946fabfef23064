use Rattle.std.proofs.Common.{◌≡◌, ℕ, ◌-◌, ◌<◌, ◌≤◌, false, get_or, length}
use Rattle.sorted_list.proofs.list.SortedList.earlier.Given as goal

abbrev pub invariant-loop-step : goal.invariant-loop-step
invariant-loop-step g l = record {
  within : l.step ≤ l.near;
  behind : (i : ℕ) (d : g.row.K.Denot) → l.near - l.step ≤ i → i < length l.self.keys → g.K.SortKey.before (get_or l.self.keys i d) l.key ≡ false;
}
