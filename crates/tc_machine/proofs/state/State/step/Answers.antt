use Rattle.std.proofs.Common.{arith}
use Rattle.tc_machine.proofs.state.State.step.Goals as goal

pub step-requires-clause-thread : goal.step-requires-clause-thread
step-requires-clause-thread g c = grind (arith)

pub returns-clause-answer : goal.returns-clause-answer
returns-clause-answer g c = rw (← c.self.view_is, ← g.met.M.Allocator.same_rules c.self.inside.replay.machine, ← c.from.ensures) c.step.ensures.answer

pub returns-clause-fault : goal.returns-clause-fault
returns-clause-fault g c =
    rw (← c.self.view_is, ← g.met.M.Allocator.same_rules c.self.inside.replay.machine, ← c.from.ensures, ← c.self.invariant) c.step.ensures.fault

pub returns-clause-lawful : goal.returns-clause-lawful
returns-clause-lawful g c = grind (arith)
