-- What holds between a CPU and each thread: a seat is what the CPU knows of a thread.
use Rattle.std.specs.Prelude.{◌≡◌, ℕ, ◌≤◌, Bool, true, length, Option, Some, IsSome, IfSome, IsSomeAnd, [], List}
use Rattle.std.specs.List.{flat_map}
use Rattle.tc_units.specs.declared.units.Addr.{Addr}
use Rattle.tc_units.specs.declared.units.ThreadNo.{ThreadNo}
use Rattle.cpu_slab.specs.Slots.{CpuSlab, row_at, held}
use Rattle.cpu_slab.specs.Sound.{IsSoundSlab}
use Rattle.rseq_core.specs.declared.sequence.Pc.TheVariants.{Begin}
use Rattle.rseq_core.specs.declared.regs.Regs.{Regs}
use Rattle.rseq_core.specs.declared.cpu_part.CpuPart.{CpuPart}
use Rattle.rseq_core.specs.Tables.{is_pop}
use Rattle.rseq_core.specs.Agrees.{Agrees, IsAtRest}
use Rattle.rseq_core.specs.Acts.{IsCurrent}

-- all objects of a slab
abbrev pub objects_of : CpuSlab → List Addr
objects_of slab = flat_map held slab.rows

-- what a thread has done to a CPU between its stop and its start: whether it is fenced, and which classes are empty
pub record Standing : Type 0 where
  pub cpu : ℕ
  pub fenced : Bool
  pub empty : ℕ → Bool

-- a thread's registers, its CPU, and the CPU that it has stopped, if any
pub record Seat : Type 0 where
  pub regs : Regs
  pub cpu : ℕ
  pub standing : Option Standing

-- a CPU alone, of m classes
pub record CpuOk (m : ℕ) (p : CpuPart) : Type 0 where
  pub classes : length p.slab.rows ≡ m
  pub sound : IsSoundSlab p.slab
  pub stopped : p.fenced ≡ true → IsSome p.stopper

-- what a thread has done to the CPU that it has stopped still stands
pub record IsHeld (t : ThreadNo) (p : CpuPart) (s : Standing) : Type 0 where
  pub stopper : p.stopper ≡ Some t
  pub fenced : s.fenced ≡ true → p.fenced ≡ true
  pub empty : (j : ℕ) → s.empty j ≡ true → (p.fenced ≡ true) × ((row_at p.slab j).top ≡ 0)

-- CPU i and thread t: it runs only at its own CPU; where it is current its registers agree with the row, and behind a fence it is at rest; the stopper is the thread that has stopped it
pub record SeatOk (i : ℕ) (t : ThreadNo) (p : CpuPart) (s : Seat) : Type 0 where
  pub home : p.running ≡ Some t → s.cpu ≡ i
  pub behind : p.running ≡ Some t → s.regs.epoch ≤ p.epoch
  pub agrees : IsCurrent t p s.regs → Agrees (is_pop s.regs.seq) (row_at p.slab s.regs.class.0) s.regs s.regs.pc
  pub rests : p.fenced ≡ true → IsCurrent t p s.regs → IsAtRest s.regs.pc
  pub stops : p.stopper ≡ Some t → IsSomeAnd s.standing (λ o. o.cpu ≡ i)
  pub stage : IfSome s.standing (λ o. o.cpu ≡ i → IsHeld t p o)

-- An act of thread t at CPU i keeps the CPU and the pair, and what it leaves fits all other threads there, and t all other CPUs.
pub record SeatKeeps (m i : ℕ) (t : ThreadNo) (p : CpuPart) (s : Seat) (new : CpuPart) (after : Seat) : Type 0 where
  pub part : CpuOk m new
  pub both : SeatOk i t new after
  pub others : (u : ThreadNo) (v : Seat) → (u ≡ t → ⊥) → SeatOk i u p v → SeatOk i u new v
  pub elsewhere : (c : ℕ) (q : CpuPart) → (c ≡ i → ⊥) → SeatOk c t q s → SeatOk c t q after

-- a seat with other registers
abbrev pub with_regs : Seat → Regs → Seat
with_regs s r = record s { regs = r }

-- a seat of a thread that has stopped CPU i
abbrev pub standing_at : Seat → ℕ → Bool → (ℕ → Bool) → Seat
standing_at s i fenced empty = record s { standing = Some (record { cpu = i; fenced = fenced; empty = empty }) }

-- registers at their begin: no sequence is under way, and nothing is loaded
pub record IsAtBegin (r : Regs) : Type 0 where
  pub pc : r.pc ≡ Begin
  pub nothing : r.loaded.items ≡ []

-- a thread that is the stopper of CPU i, and has fenced it
pub record IsFencing (i : ℕ) (s : Seat) : Type 0 where
  pub pc : s.regs.pc ≡ Begin
  pub old : Standing
  pub is : s.standing ≡ Some old
  pub here : old.cpu ≡ i
  pub fenced : old.fenced ≡ true

-- registers that are set for the next sequence, or cleared
pub record AreSet (r new : Regs) : Type 0 where
  pub pc : new.pc ≡ Begin
  pub nothing : new.loaded.items ≡ []
  pub epoch : new.epoch ≡ r.epoch
