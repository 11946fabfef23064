use Rattle.no_caches.specs.NoCachesLaw.{no_caches_in_every_order}
use Rattle.no_caches.proofs.laws.holds_in_every_order.Goals as goal

pub returns : goal.returns
returns c = no_caches_in_every_order
