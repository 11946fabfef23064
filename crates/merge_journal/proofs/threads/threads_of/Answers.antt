use Rattle.std.proofs.Common.{arith}
use Rattle.merge_journal.proofs.Placed.{among_more}
use Rattle.merge_journal.proofs.threads.threads_of.Goals as goal

pub loop-place-preserved : goal.loop-place-preserved
loop-place-preserved g c = grind (arith, among_more)
