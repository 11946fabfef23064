-- Acts of a thread at its CPU: it leaves, switches in, goes back, executes one instruction, or grows a class.
use Rattle.std.specs.Prelude.{◌≡◌, ℕ, ◌+◌, Bool, true, false, ◌==◌, Option, Some, None, min, is_some, if◌then◌else◌}
use Rattle.std.specs.Option.{option_map_or}
use Rattle.tc_units.specs.declared.units.ThreadNo.{ThreadNo}
use Rattle.cpu_slab.specs.Slots.{CpuSlab, row_at, slot_of, with_row}
use Rattle.cpu_slab.specs.Growth.{grown}
use Rattle.rseq_core.specs.declared.sequence.Pc.{Pc}
use Rattle.rseq_core.specs.declared.sequence.Pc.TheVariants.{Begin}
use Rattle.rseq_core.specs.declared.sequence.Reply.{Reply}
use Rattle.rseq_core.specs.declared.answers.Instructed.{Instructed}
use Rattle.rseq_core.specs.declared.answers.Instructed.TheVariants.{In, Back, Ran, Done}
use Rattle.rseq_core.specs.declared.answers.Grew.{Grew}
use Rattle.rseq_core.specs.declared.answers.Grew.TheVariants as grew
use Rattle.rseq_core.specs.declared.answers.Arrival.{Arrival}
use Rattle.rseq_core.specs.declared.answers.Arrival.TheVariants as arrive
use Rattle.rseq_core.specs.declared.regs.Regs.{Regs}
use Rattle.rseq_core.specs.declared.cpu_part.CpuPart.{CpuPart}
use Rattle.rseq_core.specs.Bags.{emptied}
use Rattle.rseq_core.specs.Tables.{Cell, is_pop, cell}

-- nothing is loaded, and the sequence is at its begin
abbrev pub dropped : Regs → Regs
dropped r = record r { pc = Begin; loaded = emptied r.loaded }

-- whether the running thread is this one
abbrev pub runs : Option ThreadNo → ThreadNo → Bool
runs None t = false
runs (Some u) t = u.0 == t.0

-- a thread runs at a CPU, and its epoch is the CPU's
pub record IsCurrent (t : ThreadNo) (p : CpuPart) (r : Regs) : Type 0 where
  pub runs : p.running ≡ Some t
  pub epoch : r.epoch ≡ p.epoch

-- Leave: the CPU is left where the thread runs there
abbrev pub left : CpuPart → ThreadNo → CpuPart
left p t = if runs p.running t then record p { running = None; epoch = p.epoch + 1; is_open = false } else p

-- the open mark after an instruction: an exit or a commit clears it, Begin sets it
abbrev pub open_after : Pc → Option Reply → Bool → Bool
open_after pc (Some reply) was = false
open_after Begin None was = true
open_after pc None was = was

-- the instruction of a current thread
abbrev pub instruction : CpuPart → Regs → Cell
instruction p r = cell (is_some p.stopper) (is_pop r.seq) (row_at p.slab r.class.0) r r.pc

-- the CPU after an instruction with this effect
abbrev pub with_cell : CpuPart → Regs → Cell → CpuPart
with_cell p r c = record p { slab = with_row p.slab r.class.0 c.row; ran = min 256 (p.ran + 1); is_open = open_after r.pc c.reply p.is_open }

-- a CPU, registers and an answer after an act
pub record Acted (A : Type 0) : Type 0 where
  pub cpu : CpuPart
  pub regs : Regs
  pub answer : A

-- how the thread of these registers comes to a CPU: In where it doesn't run there, and Back where its epoch isn't the CPU's
abbrev pub arrival_at : CpuPart → Regs → Arrival
arrival_at p r = if runs p.running r.thread then (if r.epoch == p.epoch then arrive.Current else arrive.Back) else arrive.In

-- the CPU once the thread has come, before it does anything else
abbrev pub cpu_after : Arrival → CpuPart → Regs → CpuPart
cpu_after arrive.In p r = record p { running = Some r.thread; epoch = p.epoch + 1; is_open = true; ran = 0 }
cpu_after arrive.Back p r = record p { is_open = false }
cpu_after arrive.Current p r = p

-- its registers then, which have the CPU's epoch
abbrev pub regs_after : Arrival → CpuPart → Regs → Regs
regs_after arrive.In p r = record (dropped r) { epoch = p.epoch + 1 }
regs_after arrive.Back p r = record (dropped r) { epoch = p.epoch }
regs_after arrive.Current p r = r

-- the first that applies of In and Back, with these answers, and the act of a current thread
abbrev pub acted_by : {A : Type 0} → A → A → Acted A → Arrival → CpuPart → Regs → Acted A
acted_by came back act arrive.In p r = record { cpu = cpu_after arrive.In p r; regs = regs_after arrive.In p r; answer = came }
acted_by came back act arrive.Back p r = record { cpu = cpu_after arrive.Back p r; regs = regs_after arrive.Back p r; answer = back }
acted_by came back act arrive.Current p r = act

-- an act of a thread with a sequence: In, Back or one instruction
abbrev pub instructed : CpuPart → Regs → Acted Instructed
instructed p r =
    let c = instruction p r in
    acted_by In Back (record { cpu = with_cell p r c; regs = c.regs; answer = option_map_or Done c.reply Ran }) (arrival_at p r) p r

-- the sequence isn't over
abbrev pub GoesOn : Instructed → Type 0
GoesOn (Done reply) = ⊥
GoesOn other = Unit {0}

-- Grow: the open mark is cleared, and where the CPU isn't stopped the class grows
abbrev pub grown_there : CpuPart → ℕ → CpuPart
grown_there p k = record p { is_open = false; slab = if is_some p.stopper then p.slab else grown p.slab k }

-- an act of a thread with a growth to do: In, Back or Grow
abbrev pub grew_here : CpuPart → Regs → Acted Grew
grew_here p r = acted_by grew.In grew.Back (record { cpu = grown_there p r.class.0; regs = r; answer = grew.Done }) (arrival_at p r) p r

-- at most one slot of a slab differs
abbrev pub DiffersAtMostOnce : CpuSlab → CpuSlab → Type 0
DiffersAtMostOnce old new = (k : ℕ) × ((i : ℕ) × ((j m : ℕ) → (j ≡ k → m ≡ i → ⊥) → slot_of (row_at new j) m ≡ slot_of (row_at old j) m))
