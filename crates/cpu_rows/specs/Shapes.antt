-- What holds of a thread by its row at the caches: its registers and its hand.
use Rattle.std.specs.Prelude.{◌≡◌, ◌*◌, ◌<◌, ◌≤◌, true, List, [], ◌∷◌, length, is_some}
use Rattle.tc_units.specs.declared.units.Class.{Class}
use Rattle.tc_units.specs.declared.units.Addr.{Addr}
use Rattle.rseq_core.specs.declared.sequence.Seq.TheVariants as seq
use Rattle.rseq_core.specs.declared.regs.Regs.{Regs}
use Rattle.rseq_core.specs.declared.regs.TheConstants.{LOADED_ROOM}
use Rattle.cpu_rows.specs.declared.row.Stopping.{Stopping}
use Rattle.cpu_rows.specs.declared.row.Stopping.TheVariants as stopping
use Rattle.cpu_rows.specs.declared.seat.CpuSeat.{CpuSeat}
use Rattle.cpu_drain.specs.Seats.{IsAtBegin}
use Rattle.call_steps.specs.declared.step.Giving.{Giving}
use Rattle.call_steps.specs.declared.step.Giving.TheVariants as giving
use Rattle.cpu_rows.specs.declared.row.CpuStep.{CpuStep}
use Rattle.cpu_rows.specs.declared.row.CpuStep.TheVariants as cpu
use Rattle.cpu_rows.specs.declared.row.DomainStep.{DomainStep}
use Rattle.cpu_rows.specs.declared.row.DomainStep.TheVariants as domain
use Rattle.call_steps.specs.Local.{row_of}
use Rattle.call_steps.specs.Calls.{HasNoLabel}
use Rattle.cpu_rows.specs.CpuRows.{about_cpu}
use Rattle.call_steps.specs.Shapes.{BeginsWith, most_slots}
use Rattle.alloc_rules.specs.Inputs.{Limits}
use Rattle.alloc_rules.specs.Shapes.{IsAsked}

-- a call that stops a CPU: that is there, and a drain has taken at most the objects of the classes below its own
abbrev pub IsStop : Limits → Class → Stopping → Type 0
IsStop m k (stopping.Drain d) = (d.cpu.0 < m.cpus) × (d.taken ≤ k.0 * most_slots)
IsStop m k (stopping.Resize r) = (r.cpu.0 < m.cpus) × (k ≡ r.class)

-- a drain begins at class 0
abbrev pub IsAtFirst : Class → Stopping → Type 0
IsAtFirst k (stopping.Drain d) = k.0 ≡ 0
IsAtFirst k (stopping.Resize r) = Unit {0}

-- at most the objects of a class are in hand, and no sequence is under way
pub record HasHand (r : Regs) : Type 0 where
  pub begin : IsAtBegin r
  pub few : length r.hand.items ≤ most_slots

-- nothing is in hand
pub record HasNone (r : Regs) : Type 0 where
  pub begin : IsAtBegin r
  pub hand : r.hand.items ≡ []

-- by the row at a CPU
abbrev pub CpuShape : Limits → CpuSeat → Regs → CpuStep → Type 0
CpuShape m v r (cpu.Pop a) = (r.seq ≡ seq.Pop) × (r.hand.items ≡ []) × IsAsked m.rows r a
CpuShape m v r (cpu.Grow a) = HasNone r × IsAsked m.rows r a
CpuShape m v r (cpu.Stock s) = (r.seq ≡ seq.PushBatch) × (0 < length r.hand.items) × (length r.hand.items ≤ LOADED_ROOM)
CpuShape m v r (cpu.Push f) = (r.seq ≡ seq.Push) × (r.hand.items ≡ f.addr ∷ [])
CpuShape m v r (cpu.PopBatch f) = (r.seq ≡ seq.PopBatch (row_of m.rows r.class).batch) × (r.hand.items ≡ f.addr ∷ [])
CpuShape m v r (cpu.Stop s) = HasNone r × IsStop m r.class s × IsAtFirst r.class s
CpuShape m v r (cpu.Fence s) = HasNone r × IsStop m r.class s × IsAtFirst r.class s
CpuShape m v r (cpu.Take s) = HasNone r × IsStop m r.class s
CpuShape m v r (cpu.SetCap x) = HasHand r × (x.cpu.0 < m.cpus) × (r.class ≡ x.class)
CpuShape m v r (cpu.Start (stopping.Drain d)) = HasNone r × (d.cpu.0 < m.cpus)
CpuShape m v r (cpu.Start (stopping.Resize x)) = HasHand r × (x.cpu.0 < m.cpus)
CpuShape m v r cpu.Leave = HasNone r × (is_some v.moved ≡ true)

-- A row that comes once a hand is given away: it is of a call without a label, and has its shape with nothing in hand.
pub record IsToCome (m : Limits) (k : Class) (row : CpuStep) : Type 0 where
  pub class : k.0 < length m.rows
  pub other : HasNoLabel (about_cpu row)
  pub shape : (v : CpuSeat) (r : Regs) → HasNone r → r.class ≡ k → CpuShape m v r row

-- what is given away, and what comes then
abbrev pub IsGiving : Limits → List Addr → Giving CpuStep → Type 0
IsGiving m hand (giving.Rest s) = Unit {0}
IsGiving m hand (giving.Freed f) = BeginsWith f.addr hand
IsGiving m hand (giving.Row k row) = IsToCome m k row
IsGiving m hand giving.End = Unit {0}

-- by the row at the cache of a domain
abbrev pub DomainShape : Limits → CpuSeat → Regs → DomainStep → Type 0
DomainShape m v r (domain.Take a) = HasNone r × IsAsked m.rows r a × (0 < v.domains)
DomainShape m v r (domain.Put g) = HasHand r × IsGiving m r.hand.items g × (0 < v.domains)
