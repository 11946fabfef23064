use Rattle.cpu_slab.proofs.GrownExactly.{grown_exactly}
use Rattle.cpu_slab.proofs.laws.growth_is_exact.Goals as goal

pub returns : goal.returns
returns c = grown_exactly
