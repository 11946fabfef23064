-- What an act of a local leaves of its CPU's open mark and of the thread's own sequence.
use Rattle.std.proofs.Common.{◌≡◌, ℕ, ◌+◌, ◌<◌, ◌≤◌, ◌⊎◌, Bool, true, false, List, Option, Some, None, refl, sym, subst}
use Rattle.std.proofs.Common.{inr, arith, not, ◌||◌, ◌&&◌, cond, ltb, is_some, length}
use Rattle.cpu_rows.proofs.Common.{ClassRow, MoveTo, CpuPart, LOADED_ROOM, Pc, Begin, Header, Test, Copy, Commit, Reply, wanted, copy_or_commit}
use Rattle.cpu_rows.proofs.Common.{cond_both, IsCurrent, instruction, runs, open_after, instructed, cpu_after, by_arrival, Acted, Instructed, Left, regs_after, grew_to, growth_kind, leaving, leaves_or, replied, at_cpu_next, CpuStep, Pop, Grow, Stock, Push, PopBatch, Local, Step, goes}
use Rattle.cpu_rows.proofs.Common.{no_class, row_of, yields_to_enter, with_next, cpu_row, yields_for, AreRows, Limits}
use Rattle.cpu_rows.proofs.Common.{at_step, RegsAt, about_cpu, Kind, enters, closes, neither, instructed_kind, step_kind}
use Rattle.std.specs.Option.{option_map_or}
use Rattle.rseq_core.specs.Acts.{with_cell}
use Rattle.rseq_core.specs.declared.answers.Instructed.TheVariants.{Done, Ran}
use Rattle.rseq_core.specs.declared.answers.Arrival.TheVariants as arrive
use Rattle.call_steps.specs.declared.step.Step.TheVariants as does
use Rattle.cpu_rows.specs.declared.row.CpuRow.TheVariants as front

-- how many instructions of a sequence were executed before its next one, where it copies so many objects
abbrev pub executed : ℕ → Pc → ℕ
executed count Begin = 0
executed count Header = 1
executed count Test = 2
executed count (Copy done) = 3 + done
executed count Commit = 3 + count

-- where it copies, these are few
abbrev pub CopiesFew : ℕ → Pc → Type 0
CopiesFew count (Copy done) = (done < count) × (count ≤ LOADED_ROOM)
CopiesFew count Commit = count ≤ LOADED_ROOM
CopiesFew count pc = Unit {0}

-- so a sequence that goes on has executed few
pub executed_few : (count : ℕ) (pc : Pc) → CopiesFew count pc → executed count pc < 256
executed_few count pc few = grind arith

-- a step is a sequence or a growth, before which its thread switches in at its own CPU
abbrev pub HasToEnter : Step → Type 0
HasToEnter (does.Front (front.Cpu (Pop a))) = Unit {0}
HasToEnter (does.Front (front.Cpu (Grow a))) = Unit {0}
HasToEnter (does.Front (front.Cpu (Stock s))) = Unit {0}
HasToEnter (does.Front (front.Cpu (Push f))) = Unit {0}
HasToEnter (does.Front (front.Cpu (PopBatch f))) = Unit {0}
HasToEnter other = ⊥

-- what was begun there goes on
abbrev pub runs_open : CpuPart → Bool
runs_open p = is_some p.running && p.is_open && ltb p.ran 256

-- A polite act In: no sequence that was begun there goes on.
pub record Enters (p : CpuPart) (l : Local) (x : CpuPart × Local) : Type 0 where
  pub has : HasToEnter l.step
  pub closed : runs_open p ≡ false
  pub cpu : x.0 ≡ cpu_after arrive.In p l.regs
  pub home : x.1.seat.cpu ≡ l.seat.cpu
  pub step : x.1.step ≡ l.step
  pub begin : x.1.regs.pc ≡ Begin

-- An instruction of the running thread, whose sequence goes on.
pub record Executes (p : CpuPart) (l : Local) (x : CpuPart × Local) : Type 0 where
  pub has : HasToEnter l.step
  pub runs : p.running ≡ Some l.regs.thread
  pub same : x.0.running ≡ p.running
  pub marked : p.is_open ≡ true → x.0.is_open ≡ true
  pub ran : x.0.ran ≤ p.ran + 1
  pub home : x.1.seat.cpu ≡ l.seat.cpu
  pub step : x.1.step ≡ l.step
  pub few : CopiesFew l.regs.count l.regs.pc → CopiesFew x.1.regs.count x.1.regs.pc × (executed x.1.regs.count x.1.regs.pc ≡ executed l.regs.count l.regs.pc + 1)

-- An act of a thread with no sequence there, which leaves the running thread and the mark.
pub record Stays (p : CpuPart) (l : Local) (x : CpuPart × Local) : Type 0 where
  pub away : HasToEnter l.step → ⊥
  pub same : x.0.running ≡ p.running
  pub marked : x.0.is_open ≡ p.is_open
  pub ran : x.0.ran ≡ p.ran

abbrev pub DoesAs : Kind → CpuPart → Local → CpuPart × Local → Type 0
DoesAs enters p l x = Enters p l x
DoesAs closes p l x = Unit {0}
DoesAs neither p l x = Executes p l x ⊎ Stays p l x

-- what is copied next, or the commit behind the last
copies_few : (done count : ℕ) → done ≤ count → count ≤ LOADED_ROOM → CopiesFew count (copy_or_commit done count) × (executed count (copy_or_commit done count) ≡ 3 + done)
copies_few done count low few = grind (arith)

-- the mark stays behind an instruction without a reply
open_stays : (pc : Pc) (o : Option Reply) (was : Bool) → o ≡ None → was ≡ true → open_after pc o was ≡ true
open_stays pc o was none is = grind arith

-- where it is polite to enter and another runs, what was begun there doesn't go on
polite_closed : (running marked : Bool) → (running || not marked) ≡ true → running ≡ false → marked ≡ false
polite_closed running marked polite other = grind arith

module _ (rows : List ClassRow) (p : CpuPart) (l : Local) (row : CpuStep) (own : l.step ≡ does.Front (front.Cpu row))
    (has : HasToEnter (does.Front (front.Cpu row))) where
  -- how such an act acts, and what is left behind one of a sequence
  abbrev ActsAs : Kind → Left CpuPart → Type 0
  ActsAs kind x = DoesAs kind p l (with_next rows l (about_cpu row) x)

  abbrev behind : Acted Instructed → Left CpuPart
  behind x = let n = replied rows l.seat x.regs x.answer row in leaving x.cpu l.seat n.0 n.1

  enters_as : yields_to_enter p l.regs.thread ≡ true → runs p.running l.regs.thread ≡ false
      → ActsAs enters (leaving (cpu_after arrive.In p l.regs) l.seat (regs_after arrive.In p l.regs) (at_cpu_next row))
  enters_as polite away =
      record { has = subst HasToEnter (sym own) has; closed = polite_closed (runs p.running l.regs.thread) (runs_open p) polite away; cpu = refl; home = refl; step = sym own; begin = refl }

  -- an instruction, by what its sequence replies
  executes_as : wanted l.regs.seq l.regs.hand.items ≤ LOADED_ROOM → IsCurrent l.regs.thread p l.regs → (o : Option Reply) → o ≡ (instruction p l.regs).reply
      → (let c = instruction p l.regs in let a = option_map_or Done o Ran in ActsAs (instructed_kind a) (behind (record { cpu = with_cell p l.regs c; regs = c.regs; answer = a })))
  executes_as few now (Some reply) is = tt
  executes_as few now None is = grind (arith, copies_few, open_stays, cond_both)

  -- with a move that is due the thread leaves
  sequence_as : wanted l.regs.seq l.regs.hand.items ≤ LOADED_ROOM → (o : Option MoveTo) → (is_some o || yields_to_enter p l.regs.thread) ≡ true
      → (let x = instructed p l.regs in ActsAs (cond (is_some o) closes (instructed_kind x.answer)) (leaves_or o p l.seat l.regs (at_cpu_next row) (behind x)))
  sequence_as few None polite =
      by_arrival (λ x. ActsAs (instructed_kind x.answer) (behind x)) _ _ _ p l.regs (enters_as polite) tt (λ now. executes_as few now _ refl)
  sequence_as few (Some move) polite = tt

-- what an act leaves of a CPU and of its thread, by the step
abbrev pub cpu_pair : List ClassRow → CpuPart → Local → Step → CpuPart × Local
cpu_pair rows p l (does.Front (front.Cpu row)) = cpu_row rows p l row
cpu_pair rows p l (does.Front (front.Domain row)) = (p, goes l (does.Front (front.Domain row)))
cpu_pair rows p l other = (p, l)

module _ (m : Limits) (p : CpuPart) (l : Local) (table : AreRows m.rows) (class : l.regs.class.0 < length m.rows) (shape : RegsAt m l.seat l.regs (at_step l.step)) where
  still : (x : CpuPart × Local) → (HasToEnter l.step → ⊥) → x.0.running ≡ p.running → x.0.is_open ≡ p.is_open → x.0.ran ≡ p.ran → DoesAs neither p l x
  still x away same marked ran = inr (record { away = away; same = same; marked = marked; ran = ran })

  away_by : (s : Step) → l.step ≡ s → (HasToEnter s → ⊥) → HasToEnter l.step → ⊥
  away_by s is none has = none (subst HasToEnter is has)

  few_batch : (row_of m.rows l.regs.class).batch ≤ LOADED_ROOM
  few_batch = (table.each l.regs.class.0 no_class class).few

  step_as : (s : Step) → l.step ≡ s → RegsAt m l.seat l.regs (at_step s) → yields_for p l s ≡ true → DoesAs (step_kind p l s) p l (cpu_pair m.rows p l s)
  step_as (does.Front (front.Cpu (Grow a))) is shape polite =
      by_arrival (λ x. ActsAs m.rows p l (Grow a) is tt (growth_kind x.answer) (leaving x.cpu l.seat x.regs (grew_to l.seat a x.answer))) _ _ _ p l.regs
      (enters_as m.rows p l (Grow a) is tt polite) tt (λ now. tt)
  step_as (does.Front (front.Cpu (Pop a))) is shape polite = sequence_as m.rows p l (Pop a) is tt (grind arith) _ polite
  step_as (does.Front (front.Cpu (Stock s))) is shape polite = sequence_as m.rows p l (Stock s) is tt (grind arith) _ polite
  step_as (does.Front (front.Cpu (Push f))) is shape polite = sequence_as m.rows p l (Push f) is tt (grind arith) _ polite
  step_as (does.Front (front.Cpu (PopBatch f))) is shape polite = sequence_as m.rows p l (PopBatch f) is tt (grind (arith, few_batch)) _ polite
  step_as s is shape polite = grind (arith, away_by, still)

  -- a polite act of a shaped local at a CPU
  pub act_as : yields_for p l l.step ≡ true → DoesAs (step_kind p l l.step) p l (cpu_pair m.rows p l l.step)
  act_as polite = step_as l.step refl shape polite
