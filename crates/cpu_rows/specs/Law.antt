-- What holds of the allocator over the per-CPU caches between any two picks, in every order of its threads' picks.
use Rattle.std.specs.Prelude.{◌≡◌, ℕ, ◌+◌, ◌*◌, ◌≤◌, List, length, Some, slice_get}
use Rattle.tc_units.specs.declared.units.Class.{Class}
use Rattle.tc_units.specs.declared.units.CpuNo.{CpuNo}
use Rattle.tc_model.specs.Input.{Input}
use Rattle.tc_model.specs.Run.{start}
use Rattle.tc_model.specs.Chains.{IsPolite}
use Rattle.rseq_core.specs.declared.cpu_part.CpuPart.{CpuPart}
use Rattle.transfer_cache.specs.Transfer.{Transfer}
use Rattle.cpu_drain.specs.Seats.{CpuOk, SeatOk}
use Rattle.cpu_rows.specs.PerCpu.{CpuLocal as Local}
use Rattle.cpu_rows.specs.CpuRows.{about_row}
use Rattle.call_steps.specs.Local.{thread_no}
use Rattle.alloc_rules.specs.Standings.{standing_of}
use Rattle.alloc_rules.specs.Heads.{HasRoom}
use Rattle.alloc_rules.specs.Law as allocator
use Rattle.cpu_rows.specs.CpuFront.{Cpu, Domain}
use Rattle.cpu_rows.specs.CpuHolds.{CpuHolds, cpu_fits, seat_at}
use Rattle.cpu_rows.specs.Slabs.{IsSlabOf}
use Rattle.cpu_rows.specs.Machine.{front_of, rules}
use Rattle.alloc_rules.specs.Inputs.{IsValidInput}
use Rattle.cpu_rows.specs.Answers.{AnswersBusy, AnswersCap}
use Rattle.cpu_rows.specs.Switches.{SwitchesAreFew}
use Rattle.cpu_rows.specs.Effects.{GrowsThere, DrainsThere, MovesThere}

-- After the picks of an order, each of which moved: what holds over any front-end, and what holds of the caches.
pub record HoldsAfter (input : Input) (order : List ℕ) : Type 0 where
  pub all : allocator.HoldsAfter (front_of input) about_row (CpuHolds input.rows input.asked.config) input.asked order
  -- there are as many CPUs, domains and caches as the heads and the table say: first the CPUs, and behind them each domain's caches by classes
  pub parts_are : length all.parts.fronts ≡ input.asked.config.cpus + input.asked.config.domains * length input.rows
  -- at each CPU no class holds more than its capacity, nor do all capacities pass the budget; a fence has its stopper
  pub cpu_is_sound : (i : ℕ) (p : CpuPart) → slice_get all.parts.fronts i ≡ Some (Cpu p) → CpuOk (length input.rows) p
  -- each CPU's slab has the slots and the budget that the heads name, and the table's classes
  pub slab_is_of_heads : (i : ℕ) (p : CpuPart) → slice_get all.parts.fronts i ≡ Some (Cpu p) → IsSlabOf input.rows input.asked.config p.slab
  -- each cache of a domain has the room that the heads name, and no more objects
  pub cache_has_room : (i : ℕ) (k : Class) (t : Transfer) → slice_get all.parts.fronts i ≡ Some (Domain k t) → HasRoom input.asked.config.transfer t
  -- an epoch is at most the number of picks
  pub epoch_is_within_picks : (i : ℕ) (p : CpuPart) → slice_get all.parts.fronts i ≡ Some (Cpu p) → p.epoch ≤ length order
  -- a thread has executed at most as many instructions of its call under way as it did acts
  pub ran_is_within_acts : (t : ℕ) (l : Local) → slice_get all.locals t ≡ Some l → l.regs.ran ≤ l.acts
  -- a thread runs only at its own CPU; a current one's registers agree with the slab, at rest behind a fence; what a stopper emptied is empty
  pub seats_agree : (i t : ℕ) (p : CpuPart) (l : Local) → slice_get all.parts.fronts i ≡ Some (Cpu p) → slice_get all.locals t ≡ Some l → SeatOk i (thread_no t) p (seat_at input.rows (standing_of l))
  -- a drain or a resize is answered busy exactly where another thread is the stopper
  pub answers_busy : (i t : ℕ) (p : CpuPart) (l : Local) → slice_get all.parts.fronts i ≡ Some (Cpu p) → slice_get all.locals t ≡ Some l → AnswersBusy input p l
  -- a capacity is refused exactly above the static one, or else past the limit
  pub answers_cap : (i t : ℕ) (p : CpuPart) (l : Local) → slice_get all.parts.fronts i ≡ Some (Cpu p) → slice_get all.locals t ≡ Some l → AnswersCap input p l
  -- a growth raises a capacity exactly where the rule lets it, by how much the rule says
  pub grows_there : (i t : ℕ) (p : CpuPart) (l : Local) → slice_get all.parts.fronts i ≡ Some (Cpu p) → slice_get all.locals t ≡ Some l → GrowsThere input p l
  -- a drain is answered by how many objects left the CPU's slab in its acts, of which that has none then
  pub drains_there : (t : ℕ) (p : CpuPart) (l : Local) (c : CpuNo) → slice_get all.parts.fronts c.0 ≡ Some (Cpu p) → slice_get all.locals t ≡ Some l → DrainsThere input order t l p c
  -- a thread whose call ends with a planned move stands at the CPU of the move then
  pub moves_there : (t : ℕ) (l : Local) → slice_get all.locals t ≡ Some l → MovesThere input t l
  -- where each pick was polite, at each CPU the acts In are at most one more than the exits, commits and acts Grow, Leave and Back
  pub switches : IsPolite (rules input) (start (rules input)) order → SwitchesAreFew (rules input) order

-- the laws of the rules of an input
abbrev pub AreLawful : Input → Type 0
AreLawful input = allocator.AreLawful (front_of input) about_row input.asked (cpu_fits input.rows) (HoldsAfter input)

abbrev pub InEveryOrder : Type 0
InEveryOrder = (input : Input) → IsValidInput input → AreLawful input
