use Rattle.heap_rules.proofs.release_is_enough.Goals as goal
use Rattle.heap_rules.proofs.Enough as law

pub returns : goal.returns
returns c = law.release_is_enough
