-- What a call of the caches' own is answered: busy, and what a capacity is.
use Rattle.std.specs.Prelude.{◌≡◌, ◌≢◌, ℕ, ◌<◌, ◌≤◌, ◌↔◌, Some}
use Rattle.tc_units.specs.declared.units.Class.{Class}
use Rattle.tc_units.specs.declared.units.ThreadNo.{ThreadNo}
use Rattle.tc_model.specs.declared.answers.Answer.TheVariants.{Busy, CapSet, OverLimit, OverStatic}
use Rattle.cpu_slab.specs.Slots.{CpuSlab, with_cap}
use Rattle.cpu_slab.specs.Growth.{used}
use Rattle.rseq_core.specs.declared.cpu_part.CpuPart.{CpuPart}
use Rattle.cpu_rows.specs.PerCpu.{CpuLocal as Local}
use Rattle.call_steps.specs.declared.step.Step.TheVariants as does
use Rattle.cpu_rows.specs.declared.row.CpuRow.TheVariants as front
use Rattle.cpu_rows.specs.declared.row.CpuStep.TheVariants as cpu
use Rattle.cpu_rows.specs.declared.row.Stopping.{Stopping}
use Rattle.cpu_rows.specs.declared.row.Resizing.{Resizing}
use Rattle.tc_model.specs.Input.{Input}
use Rattle.alloc_rules.specs.Answers.{Decides}
use Rattle.cpu_rows.specs.Machine.{Cpu, after}

-- An act that is to stop a CPU answers busy exactly where another thread is the stopper there, and names that one.
abbrev pub AnswersBusy : Input → CpuPart → Local → Type 0
AnswersBusy input p l = (s : Stopping) (owner : ThreadNo) → l.step ≡ does.Front (front.Cpu (cpu.Stop s)) → Decides l (after input (Cpu p) l).1 (Busy owner) ↔ ((p.stopper ≡ Some owner) × (owner ≢ l.regs.thread))

-- the bytes of all capacities of a CPU, with that of one class set to so many objects
abbrev pub bytes_with : CpuSlab → Class → ℕ → ℕ
bytes_with slab k n = used (with_cap slab k.0 n).rows

-- An act that is to set a capacity is refused exactly above the static one, and else exactly where all capacities would
-- pass the limit; each refusal tells its number.
pub record DecidesCap (before after : Local) (slab : CpuSlab) (k : Class) (n : ℕ) : Type 0 where
  pub over_static : (most : ℕ) → Decides before after (OverStatic most) ↔ ((most ≡ slab.most) × (slab.most < n))
  pub over_limit : (sum : ℕ) → Decides before after (OverLimit sum) ↔ ((n ≤ slab.most) × (sum ≡ bytes_with slab k n) × (slab.limit < sum))
  pub set : Decides before after CapSet ↔ ((n ≤ slab.most) × (bytes_with slab k n ≤ slab.limit))

abbrev pub AnswersCap : Input → CpuPart → Local → Type 0
AnswersCap input p l = (r : Resizing) → l.step ≡ does.Front (front.Cpu (cpu.SetCap r)) → DecidesCap l (after input (Cpu p) l).1 p.slab r.class r.cap
