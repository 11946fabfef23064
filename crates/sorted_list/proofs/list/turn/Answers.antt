use Rattle.sorted_list.proofs.Common.{nat_tests, slice_get_within, le-leb, lt-leb}
use Rattle.std.proofs.Common.{arith}
use Rattle.sorted_list.proofs.Exchanged.{moved_up, moved_down}
use Rattle.sorted_list.proofs.list.turn.Goals as goal

pub returns-else-place-target-le-FEW-clause-after : goal.returns-else-place-target-le-FEW-clause-after
returns-else-place-target-le-FEW-clause-after c = grind (arith, nat_tests, moved_up, slice_get_within, le-leb)

pub returns-else-target-place-le-FEW-clause-after : goal.returns-else-target-place-le-FEW-clause-after
returns-else-target-place-le-FEW-clause-after c = grind (arith, nat_tests, moved_down, slice_get_within, lt-leb)
