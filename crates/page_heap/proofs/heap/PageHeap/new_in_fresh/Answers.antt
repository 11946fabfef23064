use Rattle.std.proofs.Common.{◌∙◌}
use Rattle.page_heap.proofs.Taken.{as_fresh}
use Rattle.page_heap.proofs.heap.PageHeap.new_in_fresh.Goals as goal

pub returns-clause-new : goal.returns-clause-new
returns-clause-new c = as_fresh c.args.self.now c.args.n c.requires.some c.requires.below ∙ c.new_in_free.ensures.new
