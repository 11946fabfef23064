use Rattle.std.proofs.Common.{sym, subst}
use Rattle.thread_cache.specs.Cache.{IsCounted}
use Rattle.thread_cache.proofs.CacheFacts.{empty}
use Rattle.thread_cache.proofs.cache.CachePart.open.Goals as goal

pub invariant_of-result : goal.invariant_of-result
invariant_of-result c = subst (λ stacks. IsCounted stacks c.args.limit 0) (sym c.in_ok-stacks_of.ensures) (empty c.args.rows.now c.args.limit c.requires)
