use Rattle.std.proofs.Common.{arith}
use Rattle.tc_machine.proofs.state.State.done.Goals as goal

pub done-requires : goal.done-requires
done-requires g c = grind (arith)

pub returns : goal.returns
returns g c = rw (← c.self.view_is, ← g.met.M.Allocator.same_rules c.self.inside.replay.machine, ← c.from.ensures) c.done.ensures
