use Rattle.std.proofs.Common.{length}
use Rattle.place_set.proofs.tree.+first_in.Given as goal

abbrev pub decreases-first_in : goal.decreases-first_in
decreases-first_in l = length l.levels.now
