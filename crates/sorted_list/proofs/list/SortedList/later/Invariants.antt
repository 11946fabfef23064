use Rattle.std.proofs.Common.{◌≡◌, ℕ, ◌+◌, ◌<◌, true, get_or}
use Rattle.sorted_list.proofs.list.SortedList.later.Given as goal

abbrev pub invariant-loop-step : goal.invariant-loop-step
invariant-loop-step g l = (i : ℕ) (d : g.row.K.Denot) → i < l.near + l.step → g.K.SortKey.before (get_or l.self.keys i d) l.key ≡ true
