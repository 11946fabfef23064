use Rattle.std.proofs.Common.{◌≡◌, ℕ, length, cond, nat_lt}
use Rattle.sorted_list.proofs.Common.{times}
use Rattle.sorted_list.proofs.list.SortedList.open.Given as goal

abbrev pub invariant-loop-slot : goal.invariant-loop-slot
invariant-loop-slot g l = record {
  once : (s : ℕ) → times s l.order.items ≡ cond (nat_lt s l.slot) 1 0;
  size : length l.order.items ≡ l.slot;
}
