use Rattle.std.proofs.Common.{◌≡◌}
use Rattle.std.specs.Prelude.{replicate}
use Rattle.cpu_rows.specs.declared.part.CpuFrontPart.TheVariants.{Cpu}
use Rattle.cpu_rows.specs.CpuFront.{first_cpu}
use Rattle.cpu_front.proofs.opening.cpus_of.Given as goal

abbrev pub invariant-loop : goal.invariant-loop
invariant-loop l = l.parts.items ≡ replicate l.counter (Cpu (first_cpu l.setting.table l.setting.config))
