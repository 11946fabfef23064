use Rattle.std.proofs.Common.{◌≡◌, ◌-◌, ◌<◌}
use Rattle.page_heap.proofs.Common.{behind, given_by, IsPast}
use Rattle.page_heap.proofs.heap.PageHeap.release_from.Given as goal

abbrev pub invariant-loop-given : goal.invariant-loop-given
invariant-loop-given l = record {
  given : given_by l.source l.fn.self l.n ≡ behind l.given (given_by l.source l.self (l.n - l.given));
  past : IsPast l.source l.self l.most;
  within : l.most < 65536;
}

abbrev pub decreases-loop-given : goal.decreases-loop-given
decreases-loop-given l = l.n - l.given
