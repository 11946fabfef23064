use Rattle.std.proofs.Common.{refl, arith}
use Rattle.huge_cache.proofs.Greatest.{falling-take, below_leaves, none_below}
use Rattle.huge_cache.proofs.uses.drop_below.Goals as goal

pub returns-then-count-last-clause-kept : goal.returns-then-count-last-clause-kept
returns-then-count-last-clause-kept c = grind (arith, c.in-Some.ensures.variant.0 refl, none_below c.args.count)

pub loop-last-preserved : goal.loop-last-preserved
loop-last-preserved c = grind (arith, c.in-Some.ensures.variant.0 refl, falling-take, below_leaves c.args.count)
