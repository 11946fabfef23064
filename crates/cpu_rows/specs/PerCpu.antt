-- The types of the calls over the per-CPU caches.
use Rattle.cpu_rows.specs.declared.seat.CpuSeat.{CpuSeat}
use Rattle.cpu_rows.specs.declared.row.CpuRow.{CpuRow}
use Rattle.call_steps.specs.declared.step.Next.{Next as AnyNext}
use Rattle.call_steps.specs.declared.step.Step.{Step as AnyStep}
use Rattle.call_steps.specs.Local.{Local}

abbrev pub Next : Type 0
Next = AnyNext CpuRow

abbrev pub Step : Type 0
Step = AnyStep CpuRow

-- a thread's local
abbrev pub CpuLocal : Type 0
CpuLocal = Local CpuSeat CpuRow
