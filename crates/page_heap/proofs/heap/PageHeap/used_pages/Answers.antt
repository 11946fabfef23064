use Rattle.std.proofs.Common.{sym, ◌∙◌}
use Rattle.page_heap.proofs.Counted.{used_pages_are}
use Rattle.page_heap.proofs.Results.{is_heap}
use Rattle.page_heap.proofs.heap.PageHeap.used_pages.Goals as goal

pub returns-clause-value : goal.returns-clause-value
returns-clause-value c = let is = is_heap c.self.invariant c.self.view_is in is.shows.used ∙ sym (used_pages_are c.args.self.now is.well.sound)
