use Rattle.heap_rules.proofs.free_leaves.Goals as goal
use Rattle.heap_rules.proofs.Ended as law

pub returns : goal.returns
returns c = law.free_leaves
