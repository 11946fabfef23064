use Rattle.std.proofs.Common.{arith}
use Rattle.tcreplay.proofs.WorkerFacts.{left_moves}
use Rattle.tcreplay.proofs.workers.gathered.Goals as goal

pub gather-state-requires-clause-moves : goal.gather-state-requires-clause-moves
gather-state-requires-clause-moves g c = grind (arith, left_moves)

pub gather-state-requires-clause-run : goal.gather-state-requires-clause-run
gather-state-requires-clause-run g c = grind (arith)
