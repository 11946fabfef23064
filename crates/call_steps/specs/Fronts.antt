-- What contracts see of a front-end: its parts, its threads' seats, and its rows.
use Rattle.std.specs.Prelude.{◌≡◌, ℕ, Bool, List, Option, None, Some}
use Rattle.tc_units.specs.declared.spans.ClassRow.{ClassRow}
use Rattle.tc_model.specs.declared.calls.Call.{Call}
use Rattle.tc_model.specs.declared.calls.Planned.{Planned}
use Rattle.tc_model.specs.declared.answers.Answer.{Answer}
use Rattle.rseq_core.specs.declared.regs.Regs.{Regs}
use Rattle.call_steps.specs.declared.step.Asking.{Asking}
use Rattle.call_steps.specs.declared.step.Serving.{Serving}
use Rattle.call_steps.specs.declared.step.Freeing.{Freeing}
use Rattle.call_steps.specs.declared.step.Next.{Next}
use Rattle.call_steps.specs.Calls.{About, Asks, Publishes, Frees, Other}

-- With which of its rows the calls of a thread begin and go on, over seats V and rows R and under a class table: what becomes
-- of a seat as the call that is planned next begins, if there is one; the row with which an allocation of a small object
-- begins (none: it fetches from the shard), which stocks what it fetched besides and with which a free begins that has its
-- object in hand (none: that is given to the shard), with what becomes of the registers; the row of a call of the
-- front-end's own; and the one that stands between a call's end and the next call.
pub record FrontCalls (V R : Type 0) : Type 0 where
  pub rows : List ClassRow
  pub begins : V → Option Planned → V
  pub first : V → Asking → Option R
  pub to_first : Regs → Regs
  pub rest : V → Serving → Option R
  pub to_rest : Regs → Regs
  pub free : V → Freeing → Option R
  pub to_free : Regs → Regs
  pub other : V → Call → Option R
  pub to_other : Call → Regs → Regs
  pub last : V → Option R

-- what an act of the front-end leaves: its part, the thread's seat and registers, and what comes next
pub record Left (P V R : Type 0) : Type 0 where
  pub part : P
  pub seat : V
  pub regs : Regs
  pub next : Next R

-- an act that leaves these
abbrev pub leaving : {P V R : Type 0} → P → V → Regs → Next R → Left P V R
leaving p v g n = record { part = p; seat = v; regs = g; next = n }

-- A front-end of parts P, seats V and rows R: its parts at the start, how many of them have the first numbers (the others come
-- behind the names), the seat of each thread at the start, what calls need of it, the number of the part that a row is at
-- among its parts, what the act of a row leaves, whether it is polite, how many objects of a class are at an address in a
-- part, and which row may refuse a call, and how.
pub record FrontRules (P V R : Type 0) : Type 0 where
  pub parts : List P
  pub split : ℕ
  pub seats : ℕ → V
  pub calls : FrontCalls V R
  pub place : V → Regs → R → ℕ
  pub acts : P → V → Regs → R → Left P V R
  pub yields : P → V → Regs → R → Bool
  pub stored : P → ℕ → ℕ → ℕ
  pub refuses : R → Answer → Bool

-- a row with which a call begins or goes on is about that
abbrev pub IsEntry : {R : Type 0} → (R → About) → About → Option R → Type 0
IsEntry about a None = Unit {0}
IsEntry about a (Some row) = about row ≡ a

-- registers with the thread, the class and the hand of others
pub record KeepsHand (g new : Regs) : Type 0 where
  pub thread : new.thread ≡ g.thread
  pub class : new.class ≡ g.class
  pub hand : new.hand ≡ g.hand

-- The rows with which calls begin and go on are about them, and the registers keep their hand, and their class but for a call
-- of the front-end's own.
pub record AreEntries {V R : Type 0} (e : FrontCalls V R) (about : R → About) : Type 0 where
  pub first_about : (v : V) (a : Asking) → IsEntry about (Asks a) (e.first v a)
  pub rest_about : (v : V) (s : Serving) → IsEntry about (Publishes s) (e.rest v s)
  pub free_about : (v : V) (f : Freeing) → IsEntry about (Frees f) (e.free v f)
  pub other_about : (v : V) (call : Call) → IsEntry about (Other (Some call)) (e.other v call)
  pub last_about : (v : V) → IsEntry about (Other None) (e.last v)
  pub to_first : (g : Regs) → KeepsHand g (e.to_first g)
  pub to_rest : (g : Regs) → KeepsHand g (e.to_rest g)
  pub to_free : (g : Regs) → KeepsHand g (e.to_free g)
  pub to_other : (call : Call) (g : Regs) → (e.to_other call g).hand ≡ g.hand
  pub other_thread : (call : Call) (g : Regs) → (e.to_other call g).thread ≡ g.thread
