use Rattle.std.proofs.Common.{arith}
use Rattle.sorted_list.proofs.Common.{nat_tests, length-remove, slice_get_within}
use Rattle.sorted_list.proofs.Beside.{step_on, stays_there}
use Rattle.sorted_list.proofs.list.move_on.Goals as goal

pub loop-at-init : goal.loop-at-init
loop-at-init c = stays_there c.args.order.now c.args.place c.args.slot c.requires.held

pub loop-at-preserved : goal.loop-at-preserved
loop-at-preserved c = grind (arith, nat_tests, step_on, length-remove, slice_get_within)
