use Rattle.tc_machine.proofs.state.State.ended.Goals as goal

pub returns : goal.returns
returns g c = rw (← c.self.view_is, ← g.met.M.Allocator.same_rules c.self.inside.replay.machine) c.ended.ensures
