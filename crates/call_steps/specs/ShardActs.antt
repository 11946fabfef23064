-- How an allocation goes on behind its acts at the shard of the thread's class.
use Rattle.std.specs.Prelude.{List, [], ◌∷◌}
use Rattle.tc_units.specs.declared.units.Addr.{Addr}
use Rattle.tc_units.specs.declared.spans.SpanRef.{SpanRef}
use Rattle.rseq_core.specs.Bags.{appended}
use Rattle.central_free.specs.Central.{opened, opening, with_span}
use Rattle.class_shard.specs.Shard.{Shard, with_spans}
use Rattle.call_steps.specs.declared.step.Asking.{Asking}
use Rattle.call_steps.specs.declared.step.Step.TheVariants as step
use Rattle.call_steps.specs.declared.step.HeapStep.TheVariants as heap
use Rattle.call_steps.specs.Fronts.{FrontCalls}
use Rattle.call_steps.specs.Local.{Local, goes, class_row}
use Rattle.call_steps.specs.Hands.{with_hand, serves}

-- a local with these objects behind those in hand
abbrev pub with_more : {V R : Type 0} → Local V R → List Addr → Local V R
with_more l objects = with_hand l (appended l.regs.hand objects)

-- a fetch decides an allocation, or misses: then a new span is asked for
abbrev pub fetches : {V R : Type 0} → FrontCalls V R → Local V R → Asking → List Addr → Local V R
fetches e l asking [] = goes l (step.Heap (heap.NewSpan asking))
fetches e l asking (a ∷ others) = serves e (with_more l (a ∷ others)) asking

-- the span joins the shard with its first batch taken, which decides the allocation
abbrev pub adds : {V R : Type 0} → FrontCalls V R → Shard → Local V R → Asking → SpanRef → Shard × Local V R
adds e s l asking span =
    let batch = (class_row e.rows l).batch in
    let size = s.central.row.size in
    (with_spans s (with_span (opened span size batch) s.central.spans), serves e (with_more l (opening span size batch)) asking)
