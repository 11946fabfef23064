use Rattle.central_free.proofs.RankWrites.{HasWritten}
use Rattle.central_free.proofs.ranking.write_leaves.Given as goal

abbrev pub invariant-loop-slot : goal.invariant-loop-slot
invariant-loop-slot l = HasWritten l.slots l.nodes l.old l.slot
