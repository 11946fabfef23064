use Rattle.std.proofs.Common.{◌-◌}
use Rattle.huge_cache.proofs.Common.{free_inside}
use Rattle.huge_cache.proofs.cache.HugeCache.take_out.Goals as goal

pub put-requires-clause-inside : goal.put-requires-clause-inside
put-requires-clause-inside c = free_inside c.args.self.now.taken (c.args.first.0 - 1) c.args.many c.requires.some c.requires.free
