use Rattle.std.proofs.Common.{arith}
use Rattle.page_heap.proofs.Results.{is_heap, as_many}
use Rattle.page_heap.proofs.heap.PageHeap.row.Goals as goal

pub row-requires-clause-high : goal.row-requires-clause-high
row-requires-clause-high c = let size = as_many (is_heap c.self.invariant c.self.view_is) in omega (arith, size, c.requires.to)

pub returns : goal.returns
returns c = let is = is_heap c.self.invariant c.self.view_is in c.row.ensures c.args.self.now is.well.sound is.shows.means
