use Rattle.heap_rules.proofs.release_keeps.Goals as goal
use Rattle.heap_rules.proofs.Released as law

pub returns : goal.returns
returns c = law.release_keeps
