use Rattle.heap_rules.proofs.release_does.Goals as goal
use Rattle.heap_rules.proofs.ReleaseDoes as law

pub returns : goal.returns
returns c = law.release_does
