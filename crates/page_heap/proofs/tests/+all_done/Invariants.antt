use Rattle.std.proofs.Common.{length}
use Rattle.page_heap.proofs.tests.+all_done.Given as goal

abbrev pub decreases-all_done : goal.decreases-all_done
decreases-all_done g l = length l.steps.now
