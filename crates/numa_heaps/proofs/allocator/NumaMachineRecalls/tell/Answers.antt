use Rattle.std.proofs.Common.{length, refl, sym, ap, ◌∙◌, subst, arith}
use Rattle.std.proofs.lemmas.Nat.{mul-le}
use Rattle.tc_units.specs.Classes.{length_of}
use Rattle.tc_model.specs.Run.{World}
use Rattle.alloc_rules.proofs.Orders.{order_is}
use Rattle.tc_machine.specs.Inputs.{input_under}
use Rattle.tc_machine.specs.Telling.{HearsEach}
use Rattle.tc_machine.proofs.FinishFacts.{threads_below}
use Rattle.node_rules.specs.Beside.{Beside}
use Rattle.node_rules.specs.Numa.{NodeLocal, NodePart, numa_rules}
use Rattle.node_rules.proofs.NodesLaw.{threads_count}
use Rattle.numa_heaps.specs.Machine.{arena}
use Rattle.numa_heaps.proofs.FinishFacts.{holds_after, has_heap, blocks_are, scripts_are, rising_is, told_are, totals_are, covered_is}
use Rattle.numa_heaps.proofs.allocator.NumaMachineRecalls.tell.Goals as goal

pub tell_all-requires-clause-threads : goal.tell_all-requires-clause-threads
tell_all-requires-clause-threads g c =
    let m = c.args.self.now in
    let r = numa_rules m.nodes.count (input_under m.setting m.trace.value) in
    let t = threads_below r c.args.order.now (order_is r c.args.order.now c.requires.moves (omega (arith, c.requires.few, m.few))) in
    let count = ap (λ (w : World NodePart (Beside NodeLocal)). length w.locals) c.requires.run in
    rw (count, t.count) t.below

pub tell_all-requires-clause-numbers : goal.tell_all-requires-clause-numbers
tell_all-requires-clause-numbers g c =
    let m = c.args.self.now in
    let r = numa_rules m.nodes.count (input_under m.setting m.trace.value) in
    let t = threads_below r c.args.order.now (order_is r c.args.order.now c.requires.moves (omega (arith, c.requires.few, m.few))) in
    let count = ap (λ (w : World NodePart (Beside NodeLocal)). length w.locals) c.requires.run in
    omega (arith, count, t.count, threads_count m.nodes.count (input_under m.setting m.trace.value), m.valid.limits.few_threads)

pub tell_all-requires-clause-rising : goal.tell_all-requires-clause-rising
tell_all-requires-clause-rising g c t l at =
    let h = holds_after c.args.self.now c.requires.moves c.requires.few in
    h.rising t l (rising_is h c.requires.run t l at)

pub tell_all-requires-clause-blocks : goal.tell_all-requires-clause-blocks
tell_all-requires-clause-blocks g c =
    let h = holds_after c.args.self.now c.requires.moves c.requires.few in
    let m = c.args.self.now in
    let few = mul-le m.nodes.count m.setting.config.huge 8 4096 m.nodes.few m.valid.limits.few in
    (arena m.nodes.count (input_under m.setting m.trace.value), length_of m.setting.table, blocks_are h c.requires.run refl, few)

pub tell_all-requires-clause-may : goal.tell_all-requires-clause-may
tell_all-requires-clause-may g c =
    let h = holds_after c.args.self.now c.requires.moves c.requires.few in
    subst (HearsEach (g.L.Listener.may_hear c.args.listener)) (sym (told_are h c.requires.run)) c.requires.may

pub pages_of-pages-requires-clause-heaps : goal.pages_of-pages-requires-clause-heaps
pages_of-pages-requires-clause-heaps g c =
    let h = holds_after c.args.self.now c.requires.moves c.requires.few in
    has_heap h c.requires.run

pub rows_of_nodes-requires-clause-heaps : goal.rows_of_nodes-requires-clause-heaps
rows_of_nodes-requires-clause-heaps g c =
    let h = holds_after c.args.self.now c.requires.moves c.requires.few in
    has_heap h c.requires.run

pub returns-clause-heard : goal.returns-clause-heard
returns-clause-heard g c =
    let h = holds_after c.args.self.now c.requires.moves c.requires.few in
    subst (g.L.Listener.heard c.args.listener c.in_ok-listener.listener) (told_are h c.requires.run) c.in_ok-listener.ensures.heard

pub returns-clause-totals : goal.returns-clause-totals
returns-clause-totals g c =
    let h = holds_after c.args.self.now c.requires.moves c.requires.few in
    let heard = c.in_ok-listener.ensures in
    let pages = c.pages_of-pages.ensures in
    totals_are h c.requires.run refl heard.standing heard.standing.calls (c.live_bytes.ensures _ heard.standing) pages.used pages.resident (c.new.ensures ∙ c.in_ok-rows.ensures)

pub returns-clause-blocks : goal.returns-clause-blocks
returns-clause-blocks g c =
    let h = holds_after c.args.self.now c.requires.moves c.requires.few in
    blocks_are h c.requires.run (sym (told_are h c.requires.run))

pub returns-clause-scripts : goal.returns-clause-scripts
returns-clause-scripts g c =
    let h = holds_after c.args.self.now c.requires.moves c.requires.few in
    scripts_are h c.requires.run c.requires.ended (sym (told_are h c.requires.run))

pub returns-clause-covered : goal.returns-clause-covered
returns-clause-covered g c =
    let h = holds_after c.args.self.now c.requires.moves c.requires.few in
    covered_is h c.requires.run refl (c.live_bytes.ensures _ c.in_ok-listener.ensures.standing) c.pages_of-pages.ensures.runs c.pages_of-pages.ensures.covers
