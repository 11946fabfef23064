use Rattle.std.proofs.Common.{arith}
use Rattle.tcreplay.specs.Verdict.{order_by}
use Rattle.tcreplay.specs.Reads.{seen_job}
use Rattle.tcreplay.proofs.run.run.Goals as goal

pub come_to-requires-clause-fault : goal.come_to-requires-clause-fault
come_to-requires-clause-fault g c =
    let start = c.in_ok-state.ensures in
    let run = c.run_order-completed.ensures in
    let fault = rw (start.options, start.input, start.order, c.deref.ensures.value) at run.fault in
    (order_by (g.M.Allocator.rules_of c.args.options) (seen_job c.args.job), rw (run.options, run.input, start.options, start.input) fault)

pub come_to-requires-clause-valid : goal.come_to-requires-clause-valid
come_to-requires-clause-valid g c = grind (arith)

pub returns : goal.returns
returns g c = grind (arith, g.M.Allocator.rules_of c.args.options, c.come_to.ensures.ran)
