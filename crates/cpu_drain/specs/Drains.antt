-- What another thread does to a CPU: it stops it, fences it, takes its objects, sets a capacity, and starts it again.
use Rattle.std.specs.Prelude.{◌≡◌, ℕ, ◌+◌, true, false, reverse, Option, Some, None}
use Rattle.std.specs.Option.{option_or}
use Rattle.tc_units.specs.declared.units.Addr.{Addr}
use Rattle.tc_units.specs.declared.units.ThreadNo.{ThreadNo}
use Rattle.tc_units.specs.Bag.{Contents}
use Rattle.cpu_slab.specs.Slots.{row_at, held, with_top}
use Rattle.cpu_slab.specs.Caps.{with_cap_if}
use Rattle.rseq_core.specs.declared.cpu_part.CpuPart.{CpuPart}
use Rattle.rseq_core.specs.Bags.{appended}
use Rattle.cpu_drain.specs.declared.stopping.StopAnswer.{StopAnswer}
use Rattle.cpu_drain.specs.declared.stopping.StopAnswer.TheVariants.{Stopped, Busy}

-- a thread stops a CPU where nobody stands as stopper
abbrev pub stopped : CpuPart → ThreadNo → CpuPart
stopped p t = record p { stopper = option_or p.stopper (Some t) }

-- what a stop answers, by who stands there
abbrev pub stop_answer : Option ThreadNo → StopAnswer
stop_answer None = Stopped
stop_answer (Some u) = Busy u

-- the stopper sends back each sequence that was begun
abbrev pub fenced : CpuPart → CpuPart
fenced p = record p { epoch = p.epoch + 1; fenced = true }

-- all objects of a class leave the slab
abbrev pub taken : CpuPart → ℕ → CpuPart
taken p k = record p { slab = with_top p.slab k 0 }

-- they come to a bag, top first
abbrev pub taken_to : CpuPart → ℕ → Contents Addr → Contents Addr
taken_to p k out = appended out (reverse (held (row_at p.slab k)))

-- the capacity of a class is set, or refused
abbrev pub capped : CpuPart → ℕ → ℕ → CpuPart
capped p k n = record p { slab = with_cap_if p.slab k n }

-- the stopper starts the CPU again
abbrev pub started : CpuPart → CpuPart
started p = record p { stopper = None; fenced = false }

-- a thread stands as stopper, and has fenced the CPU
pub record IsFencedBy (t : ThreadNo) (p : CpuPart) : Type 0 where
  pub stopper : p.stopper ≡ Some t
  pub fenced : p.fenced ≡ true
