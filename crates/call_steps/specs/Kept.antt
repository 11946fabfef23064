-- What the code of a local keeps, and the local that it means.
use Rattle.std.specs.Prelude.{◌≡◌, ℕ, ◌+◌, ◌^◌, ◌<◌, ◌≤◌, List, [], ◌∷◌, length, drop, Option, Some, None, option_map, slice_get}
use Rattle.tc_units.specs.Bag.{Contents}
use Rattle.tc_units.specs.declared.spans.SpanRef.{SpanRef}
use Rattle.tc_model.specs.declared.answers.Answered.{Answered}
use Rattle.tc_model.specs.declared.calls.Call.{Call}
use Rattle.tc_model.specs.declared.calls.Planned.{Planned}
use Rattle.rseq_core.specs.declared.regs.Regs.{Regs}
use Rattle.call_steps.specs.declared.step.Target.{Target}
use Rattle.call_steps.specs.declared.step.Target.TheVariants as target
use Rattle.call_steps.specs.declared.step.Step.{Step}
use Rattle.call_steps.specs.declared.step.Step.TheVariants as step
use Rattle.call_steps.specs.declared.step.NamesStep.TheVariants.{Publish}
use Rattle.call_steps.specs.Local.{Local, Decided}
use Rattle.call_steps.specs.Calls.{About}
use Rattle.call_steps.specs.Rows.{under, IsOf}

-- the part that the next act is on, by the places of the front-end's rows
abbrev pub target_at : {V R : Type 0} → (V → Regs → R → ℕ) → Local V R → Step R → Option Target
target_at place l (step.Front row) = Some (target.Front (place l.seat l.regs row))
target_at place l (step.Shard row) = Some (target.Shard l.regs.class)
target_at place l (step.Heap row) = Some target.Heap
target_at place l (step.Map row) = Some target.Map
target_at place l (step.Names row) = Some target.Names
target_at place l step.Ended = None

-- the number of a front-end's part is low
abbrev pub IsLowTarget : Target → Type 0
IsLowTarget (target.Front i) = i < 32768
IsLowTarget other = Unit {0}

abbrev pub IsLowWant : Option Target → Type 0
IsLowWant None = Unit {0}
IsLowWant (Some t) = IsLowTarget t

-- the first calls of a script with their answers
abbrev pub decided_by : List Planned → List Answered → List Decided
decided_by script [] = []
decided_by [] (a ∷ as') = []
decided_by (p ∷ ps) (a ∷ as') = record { act = a.act; call = p.call; answer = a.answer } ∷ decided_by ps as'

-- a script's call at a place
abbrev pub call_at : List Planned → ℕ → Option Call
call_at script j = option_map (λ p. p.call) (slice_get script j)

-- the code of a local: its place in its script is the call under way, which has room for its answer until it is decided
pub record IsKept {R : Type 0} (about : R → About) (script : List Planned) (place : ℕ) (now : Step R) (answers : Contents Answered) : Type 0 where
  pub within : place ≤ length script
  pub few : length script < 2 ^ 64
  pub count : length answers.items ≡ place + under about now
  pub room : length answers.items + answers.spare ≡ length script
  pub call : IsOf about now (call_at script place)

-- the local that it means
abbrev pub local_of : {V R : Type 0} → V → List Planned → ℕ → Step R → Regs → Contents SpanRef → ℕ → List Answered → Local V R
local_of seat script place now regs freed acts answers =
    record {
      seat = seat;
      step = now;
      regs = regs;
      freed = freed;
      rest = drop (place + 1) script;
      ended = place;
      acts = acts;
      answers = decided_by script answers;
    }

-- what stands where the call under way is decided, until the next act takes its place: a step that is small and undecided of no call
abbrev pub over : {R : Type 0} → Step R
over = step.Names (Publish (record { 0 = 0 }) None)
