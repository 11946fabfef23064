use Rattle.std.proofs.Common.{arith}
use Rattle.tc_machine.proofs.state.State.run_order.Goals as goal

pub run_order-requires-clause-threads : goal.run_order-requires-clause-threads
run_order-requires-clause-threads g c k d within = grind (arith)

pub returns-clause-ok : goal.returns-clause-ok
returns-clause-ok g c = grind (arith)

pub returns-clause-ended : goal.returns-clause-ended
returns-clause-ended g c = rw (c.run_order.ensures.machine, ← g.met.M.Allocator.same_rules c.self.inside.replay.machine) c.run_order.ensures.ended

pub returns-clause-fault : goal.returns-clause-fault
returns-clause-fault g c = grind (arith, g.met.M.Allocator.same_rules, g.met.M.Allocator.same_turns)

pub returns-clause-lawful : goal.returns-clause-lawful
returns-clause-lawful g c = grind (arith)
