use Rattle.std.proofs.Common.{◌≡◌, ◌-◌, insert, remove}
use Rattle.sorted_list.proofs.list.move_back.Given as goal

abbrev pub invariant-loop-step : goal.invariant-loop-step
invariant-loop-step l = l.order ≡ insert (remove l.initial.order l.place) (l.place - l.step) l.slot
