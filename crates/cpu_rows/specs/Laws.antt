-- The law that the per-CPU caches meet.
use Rattle.std.specs.Prelude.{◌<◌, ◌≤◌, List}
use Rattle.tc_units.specs.declared.spans.ClassRow.{ClassRow}
use Rattle.tc_model.specs.declared.config.Config.{Config}
use Rattle.cpu_rows.specs.CpuRows.{about_row}
use Rattle.call_steps.specs.Shapes.{AreRows}
use Rattle.alloc_rules.specs.FrontLaw.{IsLawful}
use Rattle.cpu_rows.specs.CpuFront.{cpu_front}
use Rattle.cpu_rows.specs.CpuHolds.{cpu_planned, cpu_fits, CpuHolds}

-- the heads of a trace, as far as the caches need them
pub record AreCpuLimits (c : Config) : Type 0 where
  pub cpus : 0 < c.cpus
  pub slab : 0 < c.slab
  pub slots : c.slab ≤ 2048
  pub percpu : c.percpu ≤ 268435456

-- under every class table and such heads they meet the law of a front-end
abbrev pub CpuIsLawful : Type 0
CpuIsLawful = (rows : List ClassRow) (c : Config) → AreRows rows → AreCpuLimits c → IsLawful (cpu_front rows c) about_row (cpu_planned rows c) (CpuHolds rows c) (cpu_fits rows)
