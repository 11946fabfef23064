-- A legal journal.
use Rattle.std.specs.Prelude.{ℕ, ◌≡◌, ◌≤◌, ◌↔◌, true, List, length, map, filter, Option, Some}
use Rattle.std.specs.List.{AllZip}
use Rattle.tc_units.specs.Classes.{length_of}
use Rattle.tc_model.specs.declared.calls.Call.{Call}
use Rattle.tc_model.specs.declared.calls.Planned.{Planned}
use Rattle.tc_model.specs.declared.answers.CallLine.{CallLine}
use Rattle.tc_model.specs.Blocks.{IsBlockRun}
use Rattle.journal_audit.specs.declared.told.Told.{Told}
use Rattle.journal_audit.specs.declared.verdict.Verdict.{Verdict}
use Rattle.journal_audit.specs.declared.verdict.Verdict.TheVariants.{Yes}
use Rattle.journal_audit.specs.Forms.{names, answer_of}
use Rattle.journal_audit.specs.Rules.{Plan, script_at, is_by}

-- a line tells an answered call: it has a form, and says the call's thread, what it names of the call, and its answer
pub record Tells (form : Option Told) (c : CallLine) : Type 0 where
  pub told : Told
  pub form_is : form ≡ Some told
  pub thread : c.thread.0 ≡ told.thread
  pub call : names told.act c.call ≡ true
  pub answer : c.answer ≡ answer_of told.act

-- the calls of a thread among these, and those of its script
abbrev pub calls_of : ℕ → List CallLine → List Call
calls_of thread calls = map (λ (c : CallLine). c.call) (filter (is_by thread) calls)

abbrev pub calls_planned : Plan → ℕ → List Call
calls_planned plan thread = map (λ (p : Planned). p.call) (script_at plan.scripts thread)

-- The lines tell answered calls: of each thread exactly its script's calls, in their order, each once. The calls are a run
-- on disjoint blocks in the arena, in which each block has the rounded length of its request, and each free names the
-- answer of an earlier line with its label.
pub record IsLegal (plan : Plan) (journal : List (Option Told)) : Type 0 where
  pub calls : List CallLine
  pub told : AllZip Tells journal calls
  pub order : (thread : ℕ) → calls_of thread calls ≡ calls_planned plan thread
  pub run : IsBlockRun plan.huge (length_of plan.rows) calls

-- A verdict is Yes exactly on the legal journals of at most 1,000,000 lines, with the number of their lines. A trace has no
-- more calls.
abbrev pub IsYesOnLegal : Plan → List (Option Told) → Verdict → Type 0
IsYesOnLegal plan journal verdict = (n : ℕ) → (verdict ≡ Yes n) ↔ (IsLegal plan journal × (length journal ≡ n) × (n ≤ 1000000))
