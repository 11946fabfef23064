use Rattle.std.proofs.Common.{map, refl, ap, sym, ◌∙◌, arith}
use Rattle.std.specs.List.{slice_get, range_with_len}
use Rattle.heap_rules.specs.Heap.{row_of}
use Rattle.tc_machine.proofs.FinishFacts.{told_by_parts, place_is, huge_is, totals_are, covered_is}
use Rattle.tc_machine.proofs.decides.AllocMachineDecides.totals.Goals as goal

pub heap_of-heap-requires : goal.heap_of-heap-requires
heap_of-heap-requires g c =
    let m = c.args.self.now in
    let told = told_by_parts (g.met.F.LawfulFront.lawful _ m.valid m.taken) (g.met.F.LawfulFront.shared _ c.args._order.now) (g.F.FrontEnd.split_is_within m.setting) c.requires.order c.requires.run in
    (told.holds.parts.heap, ap (slice_get c.args.parts.now) (place_is (g.F.FrontEnd.rules m.setting) (g.F.FrontEnd.same_rows m.setting) c.heap_place.ensures) ∙ told.heap_at)

pub rows_of-requires-clause-all : goal.rows_of-requires-clause-all
rows_of-requires-clause-all g c =
    let m = c.args.self.now in
    let told = told_by_parts (g.met.F.LawfulFront.lawful _ m.valid m.taken) (g.met.F.LawfulFront.shared _ c.args._order.now) (g.F.FrontEnd.split_is_within m.setting) c.requires.order c.requires.run in
    let there = ap (slice_get c.args.parts.now) (sym (place_is (g.F.FrontEnd.rules m.setting) (g.F.FrontEnd.same_rows m.setting) c.heap_place.ensures)) ∙ c.heap_of-heap.ensures in
    sym (huge_is told there)

pub returns-clause-totals : goal.returns-clause-totals
returns-clause-totals g c =
    let m = c.args.self.now in
    let told = told_by_parts (g.met.F.LawfulFront.lawful _ m.valid m.taken) (g.met.F.LawfulFront.shared _ c.args._order.now) (g.F.FrontEnd.split_is_within m.setting) c.requires.order c.requires.run in
    let there = ap (slice_get c.args.parts.now) (sym (place_is (g.F.FrontEnd.rules m.setting) (g.F.FrontEnd.same_rows m.setting) c.heap_place.ensures)) ∙ c.heap_of-heap.ensures in
    let rows = c.new.ensures ∙ (c.in_ok-rows.ensures ∙ ap (λ n. map (row_of c.heap_of-heap.result.now) (range_with_len 1 n)) (sym (huge_is told there))) in
    totals_are told there refl (c.live_bytes.ensures _ c.requires.standing) c.used_pages.ensures.value c.requires.standing c.requires.standing.calls c.backed_pages.ensures.value rows

pub returns-clause-covered : goal.returns-clause-covered
returns-clause-covered g c =
    let m = c.args.self.now in
    let told = told_by_parts (g.met.F.LawfulFront.lawful _ m.valid m.taken) (g.met.F.LawfulFront.shared _ c.args._order.now) (g.F.FrontEnd.split_is_within m.setting) c.requires.order c.requires.run in
    let there = ap (slice_get c.args.parts.now) (sym (place_is (g.F.FrontEnd.rules m.setting) (g.F.FrontEnd.same_rows m.setting) c.heap_place.ensures)) ∙ c.heap_of-heap.ensures in
    covered_is told there refl (c.live_bytes.ensures _ c.requires.standing) c.used_pages.ensures.value c.used_pages.ensures.runs c.backed_pages.ensures.covers

pub returns-clause-most : goal.returns-clause-most
returns-clause-most g c =
    let m = c.args.self.now in
    let told = told_by_parts (g.met.F.LawfulFront.lawful _ m.valid m.taken) (g.met.F.LawfulFront.shared _ c.args._order.now) (g.F.FrontEnd.split_is_within m.setting) c.requires.order c.requires.run in
    let there = ap (slice_get c.args.parts.now) (sym (place_is (g.F.FrontEnd.rules m.setting) (g.F.FrontEnd.same_rows m.setting) c.heap_place.ensures)) ∙ c.heap_of-heap.ensures in
    omega (arith, c.backed_pages.ensures.most, huge_is told there)
