use Rattle.std.proofs.Common.{◌+◌, refl, ap, ◌∙◌, arith}
use Rattle.page_heap.proofs.Common.{Heap, in_filler, remeasured}
use Rattle.page_heap.proofs.Results.{IsHeap, is_heap, kept_by, view_by, made_heap, IsMeasuring, measuring}
use Rattle.page_heap.proofs.Filled.{IsJoining, joining}
use Rattle.page_heap.proofs.heap.PageHeap.join_filler.Goals as goal
use Rattle.page_heap.proofs.heap.PageHeap.join_filler.Goals.{After-huge_of, After-from}

pub join-requires-clause-place : goal.join-requires-clause-place
join-requires-clause-place c = (joining _ _ (is_heap c.self.invariant c.self.view_is) c.args.n c.args.first.0 c.requires.some c.requires.below c.requires.place).span

pub join-requires-clause-ends : goal.join-requires-clause-ends
join-requires-clause-ends c = (joining _ _ (is_heap c.self.invariant c.self.view_is) c.args.n c.args.first.0 c.requires.some c.requires.below c.requires.place).ends

pub huge_of-requires : goal.huge_of-requires
huge_of-requires c = (joining _ _ (is_heap c.self.invariant c.self.view_is) c.args.n c.args.first.0 c.requires.some c.requires.below c.requires.place).near

-- what is asked on the way
here : (c : After-huge_of) → IsJoining c.self.inside c.args.self.now c.args.n c.args.first.0
here c = joining _ _ (is_heap c.self.invariant c.self.view_is) c.args.n c.args.first.0 c.requires.some c.requires.below c.requires.place

told : (c : After-huge_of) → IsMeasuring c.self.inside c.join.new.self c.huge_of.result.0
told c =
    let is = is_heap c.self.invariant c.self.view_is in
    let after : Heap = (in_filler c.args.self.now c.args.n c.args.first.0).heap in
    measuring is after refl (here c).sound (c.join.ensures c.args.self.now is.shows.means) _ c.huge_of.result.0 (here c).own c.huge_of.ensures

pub measure-requires : goal.measure-requires
measure-requires c = let m = told (goal.at.measure-requires c).After-huge_of in record { low = m.low; high = m.high; same = m.same; told = m.told }

pub overflow_add-self : goal.overflow_add-self
overflow_add-self c = let h = here (goal.at.overflow_add-self c).After-huge_of in omega (arith, h.fits, c.from.ensures)

now : (c : After-from) →
    IsHeap (record c.self.inside { table = c.join.new.self; filler = c.measure.new.filler; used = c.self.inside.used + c.from.result })
    (in_filler c.args.self.now c.args.n c.args.first.0).heap
now c =
    let is = is_heap c.self.invariant c.self.view_is in
    let h = joining _ _ is c.args.n c.args.first.0 c.requires.some c.requires.below c.requires.place in
    let after : Heap = (in_filler c.args.self.now c.args.n c.args.first.0).heap in
    let means = c.join.ensures c.args.self.now is.shows.means in
    let filler = c.measure.ensures.told after (record { sound = h.sound; means = means }) ∙ ap (remeasured c.self.inside.filler after) c.huge_of.ensures in
    made_heap h.makes refl means c.measure.ensures.runs filler refl refl (ap (λ k. c.self.inside.used + k) c.from.ensures)

pub invariant_of-self : goal.invariant_of-self
invariant_of-self c = kept_by (now (goal.at.invariant_of-self c).After-from)

pub returns-clause-heap : goal.returns-clause-heap
returns-clause-heap c = view_by (now (goal.at.returns-clause-heap c).After-from)
