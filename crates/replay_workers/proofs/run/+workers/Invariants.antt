use Rattle.std.proofs.Common.{length}
use Rattle.replay_workers.proofs.run.+workers.Given as goal

abbrev pub decreases-run_in : goal.decreases-run_in
decreases-run_in g l = length l.workers.items
