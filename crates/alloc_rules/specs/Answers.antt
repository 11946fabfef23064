-- Where an act refuses a call: none of an allocation, and what the front-end's rows may.
use Rattle.std.specs.Prelude.{◌≡◌, ℕ, ◌↔◌, true, false, List, [], ◌∷◌, ◌++◌, Option, Some, None}
use Rattle.tc_units.specs.Units.{pages_holding}
use Rattle.tc_units.specs.declared.spans.ClassRow.{ClassRow}
use Rattle.tc_model.specs.declared.calls.Call.{Call}
use Rattle.tc_model.specs.declared.answers.Answer.{Answer}
use Rattle.tc_model.specs.declared.answers.Answer.TheVariants.{NoBlock}
use Rattle.heap_rules.specs.Heap.{Heap}
use Rattle.heap_rules.specs.New.{none_fits}
use Rattle.call_steps.specs.declared.step.Step.TheVariants as does
use Rattle.call_steps.specs.declared.step.HeapStep.TheVariants as heap
use Rattle.call_steps.specs.Local.{class_row, Local}
use Rattle.call_steps.specs.Refusals.{is_refusal, may_refuse}
use Rattle.alloc_rules.specs.declared.part.Part.TheVariants as part
use Rattle.alloc_rules.specs.Machine.{after}
use Rattle.call_steps.specs.declared.step.Step.{Step}
use Rattle.call_steps.specs.Calls.{About}
use Rattle.alloc_rules.specs.declared.part.Part.{Part}
use Rattle.call_steps.specs.Fronts.{FrontRules}

-- an act decides a call with this answer
pub record Decides {V R : Type 0} (before after : Local V R) (answer : Answer) : Type 0 where
  pub call : Call
  pub answers : after.answers ≡ before.answers ++ record { act = before.acts; call = call; answer = answer } ∷ []

-- how many pages a step asks the heap for: those of a large block, or of a new span of the thread's class
abbrev pub pages_asked : {V R : Type 0} → List ClassRow → Local V R → Step R → Option ℕ
pages_asked rows l (does.Heap (heap.New label size)) = Some (pages_holding size)
pages_asked rows l (does.Heap (heap.NewSpan asking)) = Some (class_row rows l).pages
pages_asked rows l other = None

module _ {P V R : Type 0} (r : FrontRules P V R) (about : R → About) where
  -- An act that asks the heap for so many pages answers none exactly where, by a look at every place, no run of them fits.
  abbrev pub AnswersNone : Heap → Local V R → Type 0
  AnswersNone h l = (n : ℕ) → pages_asked r.calls.rows l l.step ≡ Some n → Decides l (after r about (part.Heap h) l).1 NoBlock ↔ (none_fits h n ≡ true)

  -- No act, at whatever part, refuses a call but where its step may.
  abbrev pub RefusesThere : Local V R → Type 0
  RefusesThere l = (p : Part P) (answer : Answer) → is_refusal answer ≡ true → may_refuse r.refuses l.step answer ≡ false → Decides l (after r about p l).1 answer → ⊥
