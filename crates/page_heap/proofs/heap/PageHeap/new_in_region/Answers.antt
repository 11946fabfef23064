use Rattle.std.proofs.Common.{arith}
use Rattle.page_heap.proofs.heap.PageHeap.new_in_region.Goals as goal

pub join_region-requires-clause-place : goal.join_region-requires-clause-place
join_region-requires-clause-place c = grind (arith, c.self.invariant, c.self.view_is, c.in_ok-first.ensures.place)
