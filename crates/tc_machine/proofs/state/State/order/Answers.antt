use Rattle.std.proofs.Common.{arith}
use Rattle.tc_machine.proofs.state.State.order.Goals as goal

pub returns-clause-lawful : goal.returns-clause-lawful
returns-clause-lawful g c = grind (arith)
