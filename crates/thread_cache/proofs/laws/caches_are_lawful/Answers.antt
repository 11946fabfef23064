use Rattle.thread_cache.proofs.CachesLaw.{caches_law}
use Rattle.thread_cache.proofs.laws.caches_are_lawful.Goals as goal

pub returns : goal.returns
returns c = caches_law
