-- What holds of the per-CPU caches and of each thread as they see it, between any two picks.
use Rattle.std.specs.Prelude.{◌≡◌, ℕ, ◌+◌, ◌*◌, ◌<◌, ◌≤◌, List, length, Option, Some, None, slice_get}
use Rattle.tc_units.specs.declared.units.Class.{Class}
use Rattle.tc_units.specs.declared.spans.ClassRow.{ClassRow}
use Rattle.tc_model.specs.declared.calls.Planned.{Planned}
use Rattle.tc_model.specs.declared.config.Config.{Config}
use Rattle.tc_model.specs.Limits.{most_picks}
use Rattle.rseq_core.specs.declared.cpu_part.CpuPart.{CpuPart}
use Rattle.rseq_core.specs.declared.regs.Regs.{Regs}
use Rattle.rseq_core.specs.declared.regs.TheConstants.{LOADED_ROOM}
use Rattle.rseq_core.specs.Bags.{room}
use Rattle.cpu_drain.specs.Seats as seats
use Rattle.cpu_drain.specs.Seats.{CpuOk, SeatOk, IsAtBegin}
use Rattle.transfer_cache.specs.Transfer.{Transfer}
use Rattle.cpu_rows.specs.declared.seat.CpuSeat.{CpuSeat}
use Rattle.cpu_rows.specs.declared.row.CpuRow.{CpuRow}
use Rattle.cpu_rows.specs.declared.row.CpuRow.TheVariants as front
use Rattle.cpu_rows.specs.declared.row.DomainStep.TheVariants as domain
use Rattle.call_steps.specs.declared.step.Giving.TheVariants as giving
use Rattle.alloc_rules.specs.Inputs.{Limits, limits_of, IsMove, IsPlanned}
use Rattle.cpu_rows.specs.Shapes.{IsToCome, CpuShape, DomainShape}
use Rattle.cpu_rows.specs.CpuRows.{cpu_standing}
use Rattle.cpu_rows.specs.CpuFits.{FitsCpu, FitsDomain}
use Rattle.call_steps.specs.Local.{thread_no}
use Rattle.cpu_rows.specs.Slabs.{IsSlabOf}
use Rattle.alloc_rules.specs.Heads.{HasRoom}
use Rattle.alloc_rules.specs.Standings.{At, Here, Later, Away, Standing}
use Rattle.cpu_rows.specs.CpuFront.{CpuFrontPart, Cpu, Domain}

-- the calls that a trace may plan
abbrev pub cpu_planned : List ClassRow → Config → Planned → Type 0
cpu_planned rows c = IsPlanned (limits_of rows c)

-- what an act needs of its part; at a CPU the thread has executed few instructions
abbrev pub cpu_fits : List ClassRow → CpuFrontPart → CpuSeat → Regs → CpuRow → Type 0
cpu_fits rows (Cpu p) v g (front.Cpu row) = FitsCpu rows p v g row × (g.ran ≤ most_picks)
cpu_fits rows (Domain c t) v g (front.Domain row) = FitsDomain rows g row
cpu_fits rows p v g row = ⊥

-- What a call has done to the CPU that it stopped, by where its thread stands: while its hand is given away, as at the row that
-- comes behind that, which is at a CPU.
abbrev pub stopping_at : List ClassRow → Regs → At CpuRow → Option seats.Standing
stopping_at rows g (Here (front.Cpu row)) = cpu_standing rows g.class.0 row
stopping_at rows g (Here (front.Domain (domain.Put (giving.Row k row)))) = cpu_standing rows k.0 row
stopping_at rows g (Later k (front.Cpu row)) = cpu_standing rows k.0 row
stopping_at rows g at = None

abbrev pub seat_at : List ClassRow → Standing CpuSeat CpuRow → seats.Seat
seat_at rows s = record { regs = s.regs; cpu = s.seat.cpu.0; standing = stopping_at rows s.regs s.at }

-- the registers by where the thread stands: at a row they have its shape, and elsewhere no sequence is under way
abbrev pub RegsAt : Limits → CpuSeat → Regs → At CpuRow → Type 0
RegsAt m v g (Here (front.Cpu row)) = CpuShape m v g row
RegsAt m v g (Here (front.Domain row)) = DomainShape m v g row
RegsAt m v g (Later k (front.Cpu row)) = IsAtBegin g × IsToCome m k row
RegsAt m v g (Later k (front.Domain row)) = ⊥
RegsAt m v g Away = IsAtBegin g

-- a thread: its CPU and its move are there, it has executed no more instructions than it did acts
pub record IsSeated (rows : List ClassRow) (c : Config) (t : ℕ) (s : Standing CpuSeat CpuRow) : Type 0 where
  pub thread : s.regs.thread ≡ thread_no t
  pub home : s.seat.cpu.0 < c.cpus
  pub domains : s.seat.domains ≡ c.domains
  pub move : IsMove (limits_of rows c) s.seat.moved
  pub loaded : room s.regs.loaded ≡ LOADED_ROOM
  pub ran : s.regs.ran ≤ s.acts
  pub regs : RegsAt (limits_of rows c) s.seat s.regs s.at

-- the parts: first the CPUs, and behind them for each domain the cache of each class
pub record ArePlaced (rows : List ClassRow) (c : Config) (ps : List CpuFrontPart) : Type 0 where
  pub many : length ps ≡ c.cpus + c.domains * length rows
  pub cpu : (i : ℕ) → i < c.cpus → (p : CpuPart) × (slice_get ps i ≡ Some (Cpu p))
  pub cache : (d k : ℕ) → d < c.domains → k < length rows → (t : Transfer) × (slice_get ps (c.cpus + d * length rows + k) ≡ Some (Domain (record { 0 = k }) t))

-- all of it, after n picks
pub record CpuHolds (rows : List ClassRow) (c : Config) (n : ℕ) (ps : List CpuFrontPart) (us : List (Standing CpuSeat CpuRow)) : Type 0 where
  pub placed : ArePlaced rows c ps
  pub cpu_is_sound : (i : ℕ) (p : CpuPart) → slice_get ps i ≡ Some (Cpu p) → CpuOk (length rows) p
  pub slab_is_of_heads : (i : ℕ) (p : CpuPart) → slice_get ps i ≡ Some (Cpu p) → IsSlabOf rows c p.slab
  pub cache_has_room : (i : ℕ) (k : Class) (t : Transfer) → slice_get ps i ≡ Some (Domain k t) → HasRoom c.transfer t
  pub epoch_is_within_picks : (i : ℕ) (p : CpuPart) → slice_get ps i ≡ Some (Cpu p) → p.epoch ≤ n
  pub threads : (t : ℕ) (s : Standing CpuSeat CpuRow) → slice_get us t ≡ Some s → IsSeated rows c t s
  pub seats_agree : (i t : ℕ) (p : CpuPart) (s : Standing CpuSeat CpuRow) → slice_get ps i ≡ Some (Cpu p) → slice_get us t ≡ Some s → SeatOk i (thread_no t) p (seat_at rows s)
