use Rattle.std.proofs.Common.{◌≡◌}
use Rattle.std.specs.Prelude.{replicate}
use Rattle.thread_cache.specs.Cache.{opened}
use Rattle.thread_front.proofs.opening.caches_of.Given as goal

abbrev pub invariant-loop : goal.invariant-loop
invariant-loop l = l.parts.items ≡ replicate l.counter (opened l.setting.table l.setting.config.percpu)
