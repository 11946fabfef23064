use Rattle.std.proofs.Common.{arith}
use Rattle.tc_machine.proofs.state.State.split.Goals as goal

pub returns-clause-rules : goal.returns-clause-rules
returns-clause-rules g c = rw (← c.self.view_is, c.split.ensures.machine) (g.met.M.Allocator.same_rules c.self.inside.replay.machine)

pub returns-clause-all : goal.returns-clause-all
returns-clause-all g c = grind (arith)
