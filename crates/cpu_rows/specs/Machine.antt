-- The allocator over the per-CPU caches as a machine.
use Rattle.tc_model.specs.Input.{Input}
use Rattle.tc_model.specs.Run.{Rules}
use Rattle.rseq_core.specs.declared.cpu_part.CpuPart.{CpuPart}
use Rattle.cpu_rows.specs.declared.seat.CpuSeat.{CpuSeat}
use Rattle.cpu_rows.specs.declared.row.CpuRow.{CpuRow}
use Rattle.cpu_rows.specs.PerCpu.{CpuLocal}
use Rattle.cpu_rows.specs.CpuRows.{about_row}
use Rattle.alloc_rules.specs.declared.part.Part.{Part as AnyPart}
use Rattle.alloc_rules.specs.declared.part.Part.TheVariants as part
use Rattle.call_steps.specs.Fronts.{FrontRules}
use Rattle.alloc_rules.specs.Machine as machine
use Rattle.cpu_rows.specs.CpuFront as caches
use Rattle.cpu_rows.specs.CpuFront.{CpuFrontPart, cpu_front}

-- its parts
abbrev pub Part : Type 0
Part = AnyPart CpuFrontPart

abbrev pub Cpu : CpuPart → Part
Cpu p = part.Front (caches.Cpu p)

-- the caches of an input, as a front-end
abbrev pub front_of : Input → FrontRules CpuFrontPart CpuSeat CpuRow
front_of input = cpu_front input.rows input.asked.config

-- the pair that an act leaves
abbrev pub after : Input → Part → CpuLocal → Part × CpuLocal
after input q l = machine.after (front_of input) about_row q l

-- the allocator's rules
abbrev pub rules : Input → Rules Part CpuLocal
rules input = machine.rules (front_of input) about_row input.asked
