use Rattle.std.proofs.Common.{◌+◌, ◌*◌, ◌<◌, sym, subst}
use Rattle.page_heap.proofs.Results.{is_heap, as_many}
use Rattle.page_heap.proofs.heap.PageHeap.is_backed.Goals as goal

pub is_backed-requires-clause-high : goal.is_backed-requires-clause-high
is_backed-requires-clause-high c = subst (λ k. c.args.page.0 < 256 * (k + 1)) (sym (as_many (is_heap c.self.invariant c.self.view_is))) c.requires.to

pub returns : goal.returns
returns c = c.is_backed.ensures c.args.self.now (is_heap c.self.invariant c.self.view_is).shows.means
