use Rattle.rseq_core.proofs.Whole.{pops_whole, pushes_whole}
use Rattle.rseq_core.proofs.laws.sequences_are_whole.Goals as goal

pub returns-clause-pops : goal.returns-clause-pops
returns-clause-pops c = pops_whole

pub returns-clause-pushes : goal.returns-clause-pushes
returns-clause-pushes c = pushes_whole
