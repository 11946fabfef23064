use Rattle.std.proofs.Common.{arith}
use Rattle.tc_model.specs.Serial.{completed}
use Rattle.alloc_rules.specs.Machine.{turns}
use Rattle.tcreplay.proofs.WorkerFacts.{by_threads_under}
use Rattle.tcreplay.proofs.workers.complete.Goals as goal

pub come_to-requires-clause-fault : goal.come_to-requires-clause-fault
come_to-requires-clause-fault g c =
    let s = c.args.came.state in
    let run = c.run_serial-completed.ensures in
    (completed (g.M.Allocator.rules_of s.options s.input) (turns s.input.asked) s.input.asked.config.events s.order, rw (run.options, run.input) run.fault)

pub come_to-requires-clause-valid : goal.come_to-requires-clause-valid
come_to-requires-clause-valid g c = grind (arith)

pub returns : goal.returns
returns g c = grind (arith, c.in_ok-ran.ensures.ran, by_threads_under, g.met.M.Allocator.is_few)
