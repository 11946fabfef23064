use Rattle.std.proofs.Common.{◌≡◌, sym, ap, ◌∙◌, ◌∷◌, arith}
use Rattle.tc_units.specs.Bag.{Contents}
use Rattle.tc_units.specs.declared.spans.SpanRef.{SpanRef}
use Rattle.tc_model.specs.declared.calls.Call.TheVariants.{Free}
use Rattle.heap_rules.specs.Free.{freed}
use Rattle.call_steps.specs.Acts.{heap_after, frees_span}
use Rattle.call_steps.specs.Local.{Local}
use Rattle.call_steps.specs.declared.step.Step.TheVariants as does
use Rattle.call_steps.specs.declared.step.HeapStep.TheVariants.{FreeSpan}
use Rattle.call_steps.proofs.heap.act_heap.Goals as goal

pub returns-in-Heap-GiveBack-clause-local : goal.returns-in-Heap-GiveBack-clause-local
returns-in-Heap-GiveBack-clause-local g c =
    let l = c.args.local.now in
    let e = (g.F.FrontEnd.rules c.args.setting.now).calls in
    let label = c.in-Heap-GiveBack.field-0-0 in
    let run = c.in-Heap-GiveBack.run' in
    grind (arith, c.end_deciding.ensures (Free label))

pub returns-in-Some-take_first-clause-heap : goal.returns-in-Some-take_first-clause-heap
returns-in-Some-take_first-clause-heap g c =
    let l = c.args.local.now in
    let e = (g.F.FrontEnd.rules c.args.setting.now).calls in
    let heap = c.args.heap.now in
    let next = c.in-Heap-FreeSpan.onward in
    let is : l.step ≡ does.Heap (FreeSpan next) = sym c.step.ensures ∙ c.in-Heap-FreeSpan.is ∙ ap does.Heap c.in-Heap-FreeSpan.field-0-is in
    let items : c.local.inside.freed.items ≡ c.in-Some-take_first.span ∷ c.take_first.new.self.items = c.in-Some-take_first.ensures.taken in
    let view : c.local.inside.freed ≡ l.freed = ap (λ (m : Local g.row.F-Seat.Denot g.row.F-Row.Denot). m.freed) c.local.view_is in
    let items' = ap (λ (b : Contents SpanRef). b.items) (sym view) ∙ items in
    c.free_run-in-Heap-FreeSpan.ensures.freed
    ∙ ap (freed heap) c.run_of.ensures
    ∙ sym (ap (λ s. (heap_after e heap l s).0) is ∙ ap (λ xs. (frees_span e heap l next xs).0) items')
