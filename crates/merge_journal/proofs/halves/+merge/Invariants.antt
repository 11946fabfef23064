use Rattle.std.proofs.Common.{length}
use Rattle.merge_journal.proofs.halves.+merge.Given as goal

abbrev pub decreases-merge : goal.decreases-merge
decreases-merge l = length l.entries.now
