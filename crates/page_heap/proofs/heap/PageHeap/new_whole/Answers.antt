use Rattle.std.proofs.Common.{◌∙◌}
use Rattle.page_heap.proofs.Taken.{as_whole}
use Rattle.page_heap.proofs.heap.PageHeap.new_whole.Goals as goal

pub returns-clause-new : goal.returns-clause-new
returns-clause-new c = as_whole c.args.self.now c.args.n c.requires ∙ c.new_in_free.ensures.new
