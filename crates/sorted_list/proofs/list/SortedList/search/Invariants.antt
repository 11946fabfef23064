use Rattle.std.proofs.Common.{◌≡◌, ℕ, ◌-◌, ◌*◌, ◌+◌, ◌^◌, ◌<◌, ◌≤◌, true, false, length, get_or}
use Rattle.sorted_list.proofs.list.SortedList.search.Given as goal

abbrev pub invariant-loop-low : goal.invariant-loop-low
invariant-loop-low g l = record {
  order : l.low ≤ l.high;
  within : l.high ≤ length l.self.keys;
  early : (i : ℕ) (d : g.row.K.Denot) → i < l.low → g.K.SortKey.before (get_or l.self.keys i d) l.key ≡ true;
  behind : (i : ℕ) (d : g.row.K.Denot) → l.high ≤ i → i < length l.self.keys → g.K.SortKey.before (get_or l.self.keys i d) l.key ≡ false;
  counted : l.fn.steps ≤ l.steps;
  left : 2 ^ (l.steps - l.fn.steps) * (l.high - l.low) ≤ length l.self.keys;
  cost : 2 ^ (l.steps - l.fn.steps) ≤ 2 * length l.self.keys + 1;
}

abbrev pub decreases-loop-low : goal.decreases-loop-low
decreases-loop-low g l = l.high - l.low
