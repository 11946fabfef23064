-- What a growth, a drain and a planned move do.
use Rattle.std.specs.Prelude.{◌≡◌, ℕ, ◌+◌, ◌-◌, ◌<◌, ◌==◌, ◌&&◌, if◌then◌else◌, List, [], ◌∷◌, length, None, Some, slice_get}
use Rattle.std.specs.Option.{option_map_or}
use Rattle.tc_units.specs.declared.units.CpuNo.{CpuNo}
use Rattle.tc_model.specs.declared.answers.Answer.TheVariants.{Drained}
use Rattle.tc_model.specs.declared.calls.MoveTo.{MoveTo}
use Rattle.tc_model.specs.declared.calls.Planned.{Planned}
use Rattle.tc_model.specs.Input.{Input, script_of}
use Rattle.tc_model.specs.Run.{Rules, World, start, pick}
use Rattle.cpu_slab.specs.Slots.{held, row_at}
use Rattle.cpu_slab.specs.Grows.{GrowsExactly}
use Rattle.rseq_core.specs.declared.cpu_part.CpuPart.{CpuPart}
use Rattle.rseq_core.specs.Acts.{IsCurrent}
use Rattle.cpu_drain.specs.Seats.{objects_of}
use Rattle.call_steps.specs.declared.step.Asking.{Asking}
use Rattle.call_steps.specs.declared.step.Step.TheVariants as does
use Rattle.alloc_rules.specs.declared.part.Part.TheVariants.{Front}
use Rattle.alloc_rules.specs.Answers.{Decides}
use Rattle.cpu_rows.specs.declared.row.CpuRow.TheVariants as front
use Rattle.cpu_rows.specs.declared.row.CpuStep.TheVariants as cpu
use Rattle.cpu_rows.specs.declared.row.Draining.{Draining}
use Rattle.cpu_rows.specs.declared.row.Stopping.TheVariants as stopping
use Rattle.cpu_rows.specs.CpuFront as at
use Rattle.cpu_rows.specs.PerCpu.{CpuLocal as Local}
use Rattle.cpu_rows.specs.Machine.{Part, Cpu, after, rules}

-- An act of a current thread that is to grow its class, at a CPU that nobody stops, raises its capacity exactly where the
-- rule lets it, by how much the rule says.
pub record GrowsBy (p : CpuPart) (k : ℕ) (part : Part) : Type 0 where
  pub cpu : CpuPart
  pub is : part ≡ Cpu cpu
  pub exact : GrowsExactly p.slab k cpu.slab

abbrev pub GrowsThere : Input → CpuPart → Local → Type 0
GrowsThere input p l = (a : Asking) → l.step ≡ does.Front (front.Cpu (cpu.Grow a)) → IsCurrent l.regs.thread p l.regs → p.stopper ≡ None → GrowsBy p l.regs.class.0 (after input (Cpu p) l).0

-- how many objects the slab of CPU c has
abbrev pub objects_in : Part → ℕ
objects_in (Front (at.Cpu p)) = length (objects_of p.slab)
objects_in part = 0

abbrev pub objects_at_cpu : ℕ → World Part Local → ℕ
objects_at_cpu c w = option_map_or objects_in (slice_get w.parts c) 0

-- how many calls of thread t have ended
abbrev pub ended_of : ℕ → World Part Local → ℕ
ended_of t w = option_map_or (λ (l : Local). l.ended) (slice_get w.locals t) 0

-- how many objects leave the slab of CPU c in a pick of thread u, where that is thread t in the call behind n that have ended
abbrev pub left_in_pick : Rules Part Local → ℕ → ℕ → ℕ → World Part Local → ℕ → ℕ
left_in_pick r c t n w u = if u == t && ended_of t w == n then objects_at_cpu c w - objects_at_cpu c (pick r w u) else 0

-- and in all picks of an order
abbrev pub left_in_call : Rules Part Local → ℕ → ℕ → ℕ → World Part Local → List ℕ → ℕ
left_in_call r c t n w [] = 0
left_in_call r c t n w (u ∷ us) = left_in_pick r c t n w u + left_in_call r c t n (pick r w u) us

-- Where thread t is to answer a drain, behind an order, the CPU's slab has no object of a class, and the answer is how many
-- objects left it in the acts of that call.
pub record DrainsAll (input : Input) (order : List ℕ) (t : ℕ) (l : Local) (p : CpuPart) (c : CpuNo) : Type 0 where
  pub empty : (k : ℕ) → k < length input.rows → held (row_at p.slab k) ≡ []
  pub answer : Decides l (after input (Cpu p) l).1 (Drained (left_in_call (rules input) c.0 t l.ended (start (rules input)) order))

abbrev pub DrainsThere : Input → List ℕ → ℕ → Local → CpuPart → CpuNo → Type 0
DrainsThere input order t l p c = (d : Draining) → l.step ≡ does.Front (front.Cpu (cpu.Start (stopping.Drain d))) → d.cpu ≡ c → DrainsAll input order t l p c

-- An act of thread t that ends a call with a planned move leaves the thread at the CPU of the move.
abbrev pub MovesThere : Input → ℕ → Local → Type 0
MovesThere input t l = (q : Part) (p : Planned) (move : MoveTo) → slice_get (script_of t input.asked.calls) l.ended ≡ Some p → p.moved ≡ Some move
    → (after input q l).1.ended ≡ l.ended + 1 → (after input q l).1.seat.cpu ≡ move.cpu
