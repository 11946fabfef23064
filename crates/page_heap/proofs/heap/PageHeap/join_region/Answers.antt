use Rattle.std.proofs.Common.{◌+◌, refl, ap, arith}
use Rattle.page_heap.proofs.Common.{in_region}
use Rattle.page_heap.proofs.Results.{IsHeap, is_heap, kept_by, view_by, made_heap}
use Rattle.page_heap.proofs.InRegion.{IsJoining, joining}
use Rattle.page_heap.proofs.heap.PageHeap.join_region.Goals as goal
use Rattle.page_heap.proofs.heap.PageHeap.join_region.Goals.{After-join_region, After-from}

pub join_region-requires-clause-place : goal.join_region-requires-clause-place
join_region-requires-clause-place c = (joining _ _ (is_heap c.self.invariant c.self.view_is) c.args.n c.args.first.0 c.requires.some c.requires.place).span

-- what is asked from there on
here : (c : After-join_region) → IsJoining c.self.inside c.args.self.now c.args.n c.args.first.0
here c = joining _ _ (is_heap c.self.invariant c.self.view_is) c.args.n c.args.first.0 c.requires.some c.requires.place

pub join-requires-clause-free : goal.join-requires-clause-free
join-requires-clause-free c = let h = here (goal.at.join-requires-clause-free c).After-join_region in (h.row, h.free)

pub overflow_add-self : goal.overflow_add-self
overflow_add-self c = let h = here (goal.at.overflow_add-self c).After-join_region in omega (arith, h.fits, c.from.ensures)

now : (c : After-from) →
    IsHeap (record c.self.inside { table = c.join_region.new.self; regions = c.join.new.self; used = c.self.inside.used + c.from.result })
    (in_region c.args.self.now c.args.n c.args.first.0).heap
now c =
    let is = is_heap c.self.invariant c.self.view_is in
    let h = joining _ _ is c.args.n c.args.first.0 c.requires.some c.requires.place in
    made_heap (h.makes c.join.new.self c.join.ensures) refl (c.join_region.ensures c.args.self.now is.shows.means) c.huge-huge.ensures.runs refl refl
    refl (ap (λ k. c.self.inside.used + k) c.from.ensures)

pub invariant_of-self : goal.invariant_of-self
invariant_of-self c = kept_by (now (goal.at.invariant_of-self c).After-from)

pub returns-clause-heap : goal.returns-clause-heap
returns-clause-heap c = view_by (now (goal.at.returns-clause-heap c).After-from)
