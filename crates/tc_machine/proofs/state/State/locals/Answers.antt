use Rattle.std.proofs.Common.{arith}
use Rattle.tc_machine.proofs.state.State.locals.Goals as goal

pub returns : goal.returns
returns g c = grind (arith)
