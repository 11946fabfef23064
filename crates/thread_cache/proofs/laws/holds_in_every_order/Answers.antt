use Rattle.thread_cache.proofs.Orders.{caches_in_every_order}
use Rattle.thread_cache.proofs.laws.holds_in_every_order.Goals as goal

pub returns : goal.returns
returns c = caches_in_every_order
