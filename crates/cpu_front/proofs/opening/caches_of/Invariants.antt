use Rattle.std.proofs.Common.{◌≡◌}
use Rattle.cpu_rows.specs.CpuFront.{domain_caches, all_caches}
use Rattle.cpu_front.proofs.opening.caches_of.Given as goal

abbrev pub invariant-loop : goal.invariant-loop
invariant-loop l = l.parts.items ≡ all_caches l.counter (domain_caches l.setting.table l.setting.config)
