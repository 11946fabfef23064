use Rattle.no_caches.specs.NoCachesLaw.{no_caches_law}
use Rattle.no_caches.proofs.laws.no_caches_are_lawful.Goals as goal

pub returns : goal.returns
returns c = no_caches_law
