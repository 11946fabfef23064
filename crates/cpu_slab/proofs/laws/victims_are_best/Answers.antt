use Rattle.cpu_slab.proofs.BestVictim.{victims_best}
use Rattle.cpu_slab.proofs.laws.victims_are_best.Goals as goal

pub returns : goal.returns
returns c = victims_best
