use Rattle.std.proofs.Common.{arith}
use Rattle.huge_cache.proofs.Found.{found_backed, found_free}
use Rattle.huge_cache.proofs.cache.HugeCache.find_place.Goals as goal

pub returns-in-Some : goal.returns-in-Some
returns-in-Some c =
    let now = c.args.self.now in
    grind (arith, found_backed now c.args.many c.in-Some.place)

pub returns-in-None : goal.returns-in-None
returns-in-None c =
    let now = c.args.self.now in
    grind (arith, found_free now c.args.many c.best-in-None.result)
