use Rattle.std.proofs.Common.{◌-◌}
use Rattle.huge_cache.proofs.Common.{used_inside}
use Rattle.huge_cache.proofs.cache.HugeCache.give_run.Goals as goal

pub put-requires-clause-inside : goal.put-requires-clause-inside
put-requires-clause-inside c = used_inside c.args.self.now.taken (c.args.first.0 - 1) c.args.many c.requires.some c.requires.out
