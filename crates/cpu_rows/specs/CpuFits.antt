-- What an act of the per-CPU caches needs of its part: each condition of a lower call, by the row.
use Rattle.std.specs.Prelude.{◌≡◌, ◌≢◌, ℕ, ◌+◌, ◌-◌, ◌<◌, ◌≤◌, ◌^◌, List, [], length, Some, is_some, true}
use Rattle.tc_units.specs.declared.spans.ClassRow.{ClassRow}
use Rattle.cpu_slab.specs.Slots.{row_at}
use Rattle.rseq_core.specs.declared.cpu_part.CpuPart.{CpuPart}
use Rattle.rseq_core.specs.declared.regs.Regs.{Regs}
use Rattle.rseq_core.specs.declared.sequence.Reply.TheVariants as reply
use Rattle.rseq_core.specs.declared.answers.Instructed.TheVariants as instructed
use Rattle.rseq_core.specs.Tables.{is_pop}
use Rattle.rseq_core.specs.Agrees.{IsAble}
use Rattle.rseq_core.specs.Acts as rseq
use Rattle.cpu_drain.specs.Drains.{IsFencedBy}
use Rattle.call_steps.specs.Fits.{FitsBatch}
use Rattle.cpu_rows.specs.declared.seat.CpuSeat.{CpuSeat}
use Rattle.cpu_rows.specs.declared.row.Stopping.{Stopping}
use Rattle.cpu_rows.specs.declared.row.Stopping.TheVariants as stopping
use Rattle.cpu_rows.specs.declared.row.CpuStep.{CpuStep}
use Rattle.cpu_rows.specs.declared.row.CpuStep.TheVariants as cpu
use Rattle.cpu_rows.specs.declared.row.DomainStep.{DomainStep}
use Rattle.cpu_rows.specs.declared.row.DomainStep.TheVariants as domain

-- The CPU has the thread's class, counts have not reached their types' ends, and a current thread's registers fit.
pub record FitsSequence (rows : List ClassRow) (p : CpuPart) (r : Regs) : Type 0 where
  pub class : r.class.0 < length rows
  pub there : r.class.0 < length p.slab.rows
  pub epoch : p.epoch < 2 ^ 64 - 1
  pub ran : r.ran < 2 ^ 32 - 1
  pub able : rseq.IsCurrent r.thread p r → IsAble (is_pop r.seq) (row_at p.slab r.class.0) r r.pc

-- a pop that commits has an object of its class in hand
abbrev pub PopsSome : CpuPart → Regs → Type 0
PopsSome p r = let x = rseq.instructed p r in x.answer ≡ instructed.Done reply.Popped → (0 < length x.regs.hand.items) × (x.regs.class ≡ r.class)

-- a step is a sequence
abbrev pub IsSequence : CpuStep → Type 0
IsSequence (cpu.Pop a) = Unit {0}
IsSequence (cpu.Stock s) = Unit {0}
IsSequence (cpu.Push f) = Unit {0}
IsSequence (cpu.PopBatch f) = Unit {0}
IsSequence other = ⊥

-- how many objects a call that stops a CPU has taken
abbrev pub taken_by : Stopping → ℕ
taken_by (stopping.Drain d) = d.taken
taken_by (stopping.Resize r) = 0

-- The thread is the stopper and has fenced the CPU, which has its class; and there is room for the objects of that.
pub record FitsTake (p : CpuPart) (r : Regs) (s : Stopping) : Type 0 where
  pub fenced : IsFencedBy r.thread p
  pub there : r.class.0 < length p.slab.rows
  pub room : (row_at p.slab r.class.0).top ≤ r.hand.spare
  pub empty : r.hand.items ≡ []
  pub few : taken_by s + (row_at p.slab r.class.0).top < 2 ^ 64

pub record FitsSetCap (p : CpuPart) (r : Regs) : Type 0 where
  pub fenced : IsFencedBy r.thread p
  pub there : r.class.0 < length p.slab.rows
  pub empty : (row_at p.slab r.class.0).top ≡ 0

abbrev pub FitsCpu : List ClassRow → CpuPart → CpuSeat → Regs → CpuStep → Type 0
FitsCpu rows p v r (cpu.Pop a) = FitsSequence rows p r × PopsSome p r
FitsCpu rows p v r (cpu.Grow a) = (r.class.0 < length p.slab.rows) × (p.epoch < 2 ^ 64 - 1)
FitsCpu rows p v r (cpu.Stock s) = FitsSequence rows p r
FitsCpu rows p v r (cpu.Push f) = FitsSequence rows p r
FitsCpu rows p v r (cpu.PopBatch f) = FitsSequence rows p r
FitsCpu rows p v r (cpu.Stop s) = p.stopper ≢ Some r.thread
FitsCpu rows p v r (cpu.Fence s) = (p.stopper ≡ Some r.thread) × (p.epoch < 2 ^ 64 - 1)
FitsCpu rows p v r (cpu.Take s) = FitsTake p r s
FitsCpu rows p v r (cpu.SetCap x) = FitsSetCap p r
FitsCpu rows p v r (cpu.Start s) = IsFencedBy r.thread p
FitsCpu rows p v r cpu.Leave = (is_some v.moved ≡ true) × (p.epoch < 2 ^ 64 - 1)

abbrev pub FitsDomain : List ClassRow → Regs → DomainStep → Type 0
FitsDomain rows r (domain.Take a) = FitsBatch rows r × (r.hand.items ≡ [])
FitsDomain rows r (domain.Put g) = Unit {0}
