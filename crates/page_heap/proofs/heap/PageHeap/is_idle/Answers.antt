use Rattle.std.proofs.Common.{◌∙◌, arith}
use Rattle.page_heap.proofs.Idle.{idle_shown}
use Rattle.page_heap.proofs.Results.{is_heap, as_many}
use Rattle.page_heap.proofs.heap.PageHeap.is_idle.Goals as goal

pub row-requires : goal.row-requires
row-requires c = let size = as_many (is_heap c.self.invariant c.self.view_is) in record { low = c.requires.from; high = omega (arith, c.requires.to) }

pub returns : goal.returns
returns c =
    let is = is_heap c.self.invariant c.self.view_is in
    c.shows_idle.ensures ∙ idle_shown c.args.self.now c.args.huge.0 c.row.result is.well.sound c.requires (c.row.ensures c.args.self.now is.well.sound is.shows.means)
