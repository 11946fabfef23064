use Rattle.std.proofs.Common.{arith}
use Rattle.tc_machine.proofs.state.State.yields.Goals as goal

pub yields-requires : goal.yields-requires
yields-requires g c = grind (arith)

pub returns : goal.returns
returns g c = rw (← c.self.view_is, ← g.met.M.Allocator.same_rules c.self.inside.replay.machine, ← c.from.ensures) c.yields.ensures
