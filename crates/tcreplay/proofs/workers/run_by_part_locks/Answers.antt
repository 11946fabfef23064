use Rattle.std.proofs.Common.{arith}
use Rattle.tcreplay.proofs.workers.run_by_part_locks.Goals as goal

pub complete-requires-clause-left : goal.complete-requires-clause-left
complete-requires-clause-left g c =
    let came = c.in_ok-came.came in
    grind (arith)

pub complete-requires-clause-valid : goal.complete-requires-clause-valid
complete-requires-clause-valid g c = grind (arith)

pub returns : goal.returns
returns g c = grind (arith)
