-- What one thread has: the state of its call under way, what that has in hand, the calls behind it, and its answers.
use Rattle.std.specs.Prelude.{ℕ, ◌+◌, List, [], ◌∷◌, ◌++◌, drop, Option, Some, None, slice_get}
use Rattle.std.specs.List.{slice_index_or}
use Rattle.std.specs.Option.{option_map_or}
use Rattle.tc_units.specs.Bag.{Contents}
use Rattle.tc_units.specs.Classes.{class_of}
use Rattle.tc_units.specs.declared.units.Class.{Class}
use Rattle.tc_units.specs.declared.units.ThreadNo.{ThreadNo}
use Rattle.tc_units.specs.declared.spans.SpanRef.{SpanRef}
use Rattle.tc_units.specs.declared.spans.ClassRow.{ClassRow}
use Rattle.tc_model.specs.declared.calls.Call.{Call}
use Rattle.tc_model.specs.declared.calls.Call.TheVariants.{Malloc, Free, Release, Drain, Resize}
use Rattle.tc_model.specs.declared.calls.Planned.{Planned}
use Rattle.tc_model.specs.declared.answers.Answer.{Answer}
use Rattle.tc_model.specs.declared.answers.CallLine.{CallLine}
use Rattle.rseq_core.specs.declared.regs.Regs.{Regs}
use Rattle.rseq_core.specs.declared.regs.TheConstants.{HAND_ROOM}
use Rattle.rseq_core.specs.Registers.{first_regs}
use Rattle.holdings.specs.Books.{no_class}
use Rattle.call_steps.specs.declared.step.Asking.{Asking}
use Rattle.call_steps.specs.declared.step.Step.{Step}
use Rattle.call_steps.specs.declared.step.Step.TheVariants as step
use Rattle.call_steps.specs.declared.step.ShardStep.TheVariants.{Fetch}
use Rattle.call_steps.specs.declared.step.HeapStep.TheVariants.{New, Unback}
use Rattle.call_steps.specs.declared.step.NamesStep.TheVariants.{Take}
use Rattle.call_steps.specs.Fronts.{FrontCalls}

-- a call that was decided, with its answer and the number of the act that decided it among the thread's own acts
pub record Decided : Type 0 where
  pub act : ℕ
  pub call : Call
  pub answer : Answer

-- A thread's local, by the seats and the rows of the front-end: its seat there, the next act of its call under way, its
-- registers with the objects in hand, the spans that it has to give back, the calls behind that call, how many calls have
-- ended, how many acts it has done, and its decided calls in their order.
pub record Local (V R : Type 0) : Type 0 where
  pub seat : V
  pub step : Step R
  pub regs : Regs
  pub freed : Contents SpanRef
  pub rest : List Planned
  pub ended : ℕ
  pub acts : ℕ
  pub answers : List Decided

-- a step of the front-end where it has a row, and else another one
abbrev pub step_or : {R : Type 0} → Step R → Option R → Step R
step_or other None = other
step_or other (Some row) = step.Front row

-- the first act of a call, of a thread that is seated so
abbrev pub first_of_call : {V R : Type 0} → FrontCalls V R → V → Call → Step R
first_of_call e v (Malloc label size) =
    let a : Asking = record { label = label; size = size } in
    option_map_or (λ k. step_or (step.Shard (Fetch a)) (e.first v a)) (class_of e.rows size) (step.Heap (New label size))
first_of_call e v (Free label) = step.Names (Take label)
first_of_call e v (Release pages) = step.Heap (Unback pages)
first_of_call e v (Drain cpu) = step_or step.Ended (e.other v (Drain cpu))
first_of_call e v (Resize cpu class cap) = step_or step.Ended (e.other v (Resize cpu class cap))

-- the registers at the begin of a call: they are of its class where it has one
abbrev pub regs_of_call : {V R : Type 0} → FrontCalls V R → Call → Regs → Regs
regs_of_call e (Malloc label size) r = option_map_or (λ k. e.to_first (record r { class = k })) (class_of e.rows size) r
regs_of_call e (Free label) r = r
regs_of_call e (Release pages) r = r
regs_of_call e (Drain cpu) r = e.to_other (Drain cpu) r
regs_of_call e (Resize cpu class cap) r = e.to_other (Resize cpu class cap) r

-- the first act and the registers of the call that is planned next, which has executed no instruction, or none where the script
-- has ended
abbrev pub first_act : {V R : Type 0} → FrontCalls V R → V → Option Planned → Step R
first_act e v None = step.Ended
first_act e v (Some p) = first_of_call e v p.call

abbrev pub regs_by : {V R : Type 0} → FrontCalls V R → Option Planned → Regs → Regs
regs_by e None r = r
regs_by e (Some p) r = record (regs_of_call e p.call r) { ran = 0 }

-- the thread comes to the first of these calls, or its script has ended
abbrev pub next_call : {V R : Type 0} → FrontCalls V R → Local V R → List Planned → Local V R
next_call e l calls =
    let first = slice_get calls 0 in
    let seat = e.begins l.seat first in record l { step = first_act e seat first; regs = regs_by e first l.regs; seat = seat; rest = drop 1 calls }

abbrev pub thread_no : ℕ → ThreadNo
thread_no t = record { 0 = t }

-- a thread without a call
abbrev pub idle_local : {V R : Type 0} → ThreadNo → V → Local V R
idle_local thread seat =
    record {
      seat = seat;
      step = step.Ended;
      regs = first_regs thread;
      freed = record { items = []; spare = HAND_ROOM };
      rest = [];
      ended = 0;
      acts = 0;
      answers = [];
    }

-- a thread before its first act
abbrev pub first_local : {V R : Type 0} → FrontCalls V R → ThreadNo → V → List Planned → Local V R
first_local e thread seat script = next_call e (idle_local thread seat) script

-- the next act decides the call
abbrev pub decided : {V R : Type 0} → Local V R → Call → Answer → Local V R
decided l call answer = record l { answers = l.answers ++ record { act = l.acts; call = call; answer = answer } ∷ [] }

-- an act after which the call goes on
abbrev pub goes : {V R : Type 0} → Local V R → Step R → Local V R
goes l next = record l { step = next; acts = l.acts + 1 }

-- an act that ends the call: a row of the front-end may come before the next one
abbrev pub ends : {V R : Type 0} → FrontCalls V R → Local V R → Local V R
ends e l =
    let done = record l { acts = l.acts + 1 } in
    option_map_or (λ row. record done { step = step.Front row }) (e.last l.seat) (next_call e (record done { ended = l.ended + 1 }) l.rest)

-- the row of a class, and that of the thread's class
abbrev pub row_of : List ClassRow → Class → ClassRow
row_of rows k = slice_index_or rows k.0 no_class

abbrev pub class_row : {V R : Type 0} → List ClassRow → Local V R → ClassRow
class_row rows l = row_of rows l.regs.class

-- how a decided call of a thread is told
abbrev pub told : ℕ → Decided → CallLine
told thread d = record { thread = record { 0 = thread }; call = d.call; answer = d.answer }
