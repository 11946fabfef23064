use native.Mathlib.Numerals.{unary_clauses}
use Rattle.std.proofs.Common.{arith}
use Rattle.sorted_list.proofs.Common.{nat_tests, length-remove, slice_get_within}
use Rattle.sorted_list.proofs.Beside.{step_back, stays_there}
use Rattle.sorted_list.proofs.list.move_back.Goals as goal

pub loop-step-init : goal.loop-step-init
loop-step-init c = simp unary_clauses (stays_there c.args.order.now c.args.place c.args.slot c.requires.held)

pub loop-step-preserved : goal.loop-step-preserved
loop-step-preserved c = grind (arith, nat_tests, step_back, length-remove, slice_get_within)
