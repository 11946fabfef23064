use Rattle.std.proofs.Common.{ap, arith}
use Rattle.huge_cache.proofs.Common.{limit, Cache}
use Rattle.huge_cache.proofs.cache.HugeCache.over.Goals as goal

pub returns : goal.returns
returns c = omega (arith, c.saturating_sub.ensures, c.backed.ensures, c.limit.ensures, ap (λ (v : Cache). limit v.most v.counts) c.self.view_is)
