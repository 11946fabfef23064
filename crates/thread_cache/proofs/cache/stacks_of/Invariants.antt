use Rattle.std.proofs.Common.{◌≡◌, map, take}
use Rattle.thread_cache.specs.Cache.{empty_stack}
use Rattle.thread_cache.proofs.cache.stacks_of.Given as goal

-- a list for each class so far
abbrev pub invariant-loop-row : goal.invariant-loop-row
invariant-loop-row l = l.stacks.items ≡ map empty_stack (take l.row-index l.rows)
