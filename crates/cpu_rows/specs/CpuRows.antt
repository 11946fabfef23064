-- The rows of the calls at the per-CPU caches: what each is about, where it is, and what its call has done there.
use Rattle.std.specs.Prelude.{ℕ, ◌+◌, ◌*◌, ◌%◌, ◌==◌, if◌then◌else◌, nat_lt, Bool, true, false, List, length, Option, Some, None}
use Rattle.tc_units.specs.declared.units.CpuNo.{CpuNo}
use Rattle.tc_units.specs.declared.spans.ClassRow.{ClassRow}
use Rattle.tc_model.specs.declared.answers.Answer.{Answer}
use Rattle.tc_model.specs.declared.answers.Answer.TheVariants.{Busy, OverLimit, OverStatic}
use Rattle.tc_model.specs.declared.calls.Call.{Call}
use Rattle.tc_model.specs.declared.calls.Call.TheVariants.{Drain, Resize}
use Rattle.rseq_core.specs.declared.regs.Regs.{Regs}
use Rattle.cpu_drain.specs.Seats.{Standing}
use Rattle.cpu_rows.specs.declared.seat.CpuSeat.{CpuSeat}
use Rattle.cpu_rows.specs.declared.row.Stopping.{Stopping}
use Rattle.cpu_rows.specs.declared.row.Stopping.TheVariants as stopping
use Rattle.call_steps.specs.declared.step.Giving.{Giving}
use Rattle.call_steps.specs.declared.step.Giving.TheVariants as giving
use Rattle.cpu_rows.specs.declared.row.CpuRow.{CpuRow}
use Rattle.cpu_rows.specs.declared.row.CpuRow.TheVariants as front
use Rattle.cpu_rows.specs.declared.row.CpuStep.{CpuStep}
use Rattle.cpu_rows.specs.declared.row.CpuStep.TheVariants.{Pop, Grow, Stock, Push, PopBatch, Stop, Fence, Take, SetCap, Start, Leave}
use Rattle.cpu_rows.specs.declared.row.DomainStep.TheVariants as domain
use Rattle.call_steps.specs.Calls.{About, Asks, Publishes, Frees, Other, about_giving}

-- the call that stops a CPU
abbrev pub call_of : Stopping → Call
call_of (stopping.Drain d) = Drain d.cpu
call_of (stopping.Resize r) = Resize r.cpu r.class r.cap

-- what the row that starts a stopped CPU again is about
abbrev pub about_start : Stopping → About
about_start (stopping.Drain d) = Other (Some (Drain d.cpu))
about_start (stopping.Resize r) = Other None

-- the CPU that a call stops
abbrev pub cpu_of : Stopping → CpuNo
cpu_of (stopping.Drain d) = d.cpu
cpu_of (stopping.Resize r) = r.cpu

-- What a call has done to the CPU that it stopped: whether it is fenced, and which classes the call has emptied.
abbrev pub stands : CpuNo → Bool → (ℕ → Bool) → Option Standing
stands c fenced empty = Some (record { cpu = c.0; fenced = fenced; empty = empty })

-- a test of classes, or of answers, that none passes; that of the classes below a number, and that of one class
abbrev pub never : {A : Type 0} → A → Bool
never one = false

abbrev pub below : ℕ → ℕ → Bool
below n j = nat_lt j n

abbrev pub alone : ℕ → ℕ → Bool
alone k j = j == k

-- A drain empties one class after another: those below class k, before it takes class k; and all, before it starts the CPU
-- again. A resize empties its own class.
abbrev pub empty_to_take : ℕ → Stopping → ℕ → Bool
empty_to_take k (stopping.Drain d) = below k
empty_to_take k (stopping.Resize r) = never

abbrev pub empty_to_start : List ClassRow → Stopping → ℕ → Bool
empty_to_start rows (stopping.Drain d) = below (length rows)
empty_to_start rows (stopping.Resize r) = alone r.class.0

-- the answers by which a stop and a capacity are refused
abbrev pub refuses_stop : Answer → Bool
refuses_stop (Busy owner) = true
refuses_stop answer = false

abbrev pub refuses_cap : Answer → Bool
refuses_cap (OverLimit sum) = true
refuses_cap (OverStatic most) = true
refuses_cap answer = false

-- The rows at a CPU, in one table: what each is about, at which CPU it is, by the thread's own, what its call has done to the
-- CPU that it stopped, by the class table and the thread's class, and by which answers it may refuse.
pub record CpuRule : Type 0 where
  pub about : About
  pub cpu : CpuNo → CpuNo
  pub standing : List ClassRow → ℕ → Option Standing
  pub refuses : Answer → Bool

abbrev pub own : About → CpuRule
own about = record { about = about; cpu = λ own. own; standing = λ rows k. None; refuses = never }

abbrev pub stopped : CpuNo → About → Bool → (List ClassRow → ℕ → ℕ → Bool) → CpuRule
stopped c about fenced empty = record { about = about; cpu = λ own. c; standing = λ rows k. stands c fenced (empty rows k); refuses = never }

abbrev pub cpu_rule : CpuStep → CpuRule
cpu_rule (Pop a) = own (Asks a)
cpu_rule (Grow a) = own (Asks a)
cpu_rule (Stock s) = own (Publishes s)
cpu_rule (Push f) = own (Frees f)
cpu_rule (PopBatch f) = own (Frees f)
cpu_rule (Stop s) = record { about = Other (Some (call_of s)); cpu = λ own. cpu_of s; standing = λ rows k. None; refuses = refuses_stop }
cpu_rule (Fence s) = stopped (cpu_of s) (Other (Some (call_of s))) false (λ rows k. never)
cpu_rule (Take s) = stopped (cpu_of s) (Other (Some (call_of s))) true (λ rows k. empty_to_take k s)
cpu_rule (SetCap r) = record (stopped r.cpu (Other (Some (Resize r.cpu r.class r.cap))) true (λ rows k. alone r.class.0)) { refuses = refuses_cap }
cpu_rule (Start s) = stopped (cpu_of s) (about_start s) true (λ rows k. empty_to_start rows s)
cpu_rule Leave = own (Other None)

abbrev pub about_cpu : CpuStep → About
about_cpu row = (cpu_rule row).about

-- the CPU that an act is at: the thread's own, or the one that its call stops
abbrev pub at_cpu : CpuNo → CpuStep → CpuNo
at_cpu own row = (cpu_rule row).cpu own

-- what the call of a thread whose class is k has done to the CPU that it stopped
abbrev pub cpu_standing : List ClassRow → ℕ → CpuStep → Option Standing
cpu_standing rows k row = (cpu_rule row).standing rows k

-- which of their rows may refuse a call, and how
abbrev pub cpu_refuses : CpuRow → Answer → Bool
cpu_refuses (front.Cpu row) answer = (cpu_rule row).refuses answer
cpu_refuses (front.Domain row) answer = false

-- what all their rows are about
abbrev pub about_row : CpuRow → About
about_row (front.Cpu row) = about_cpu row
about_row (front.Domain (domain.Take a)) = Asks a
about_row (front.Domain (domain.Put g)) = about_giving about_cpu g

-- what is given away behind which a row at a CPU may come, as the calls have it
abbrev pub as_row : Giving CpuStep → Giving CpuRow
as_row (giving.Rest s) = giving.Rest s
as_row (giving.Freed f) = giving.Freed f
as_row (giving.Row k row) = giving.Row k (front.Cpu row)
as_row giving.End = giving.End

-- CPU c is in domain c mod domains
abbrev pub domain_of : CpuSeat → ℕ
domain_of v = if v.domains == 0 then 0 else v.cpu.0 % v.domains

-- the number of the part that a row is at, where there are so many CPUs and classes: a CPU, or behind all of them the cache
-- of a class in a domain
abbrev pub cpu_place : ℕ → ℕ → CpuSeat → Regs → CpuRow → ℕ
cpu_place cpus classes v r (front.Cpu row) = (at_cpu v.cpu row).0
cpu_place cpus classes v r (front.Domain row) = cpus + domain_of v * classes + r.class.0
