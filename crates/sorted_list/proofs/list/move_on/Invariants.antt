use Rattle.std.proofs.Common.{◌≡◌, insert, remove}
use Rattle.sorted_list.proofs.list.move_on.Given as goal

abbrev pub invariant-loop-at : goal.invariant-loop-at
invariant-loop-at l = l.order ≡ insert (remove l.initial.order l.place) l.at l.slot
