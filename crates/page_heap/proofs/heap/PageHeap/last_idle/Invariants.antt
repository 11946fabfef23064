use Rattle.std.proofs.Common.{◌≡◌, ℕ, ◌<◌, false}
use Rattle.page_heap.proofs.Common.{is_idle}
use Rattle.page_heap.proofs.heap.PageHeap.last_idle.Given as goal

abbrev pub invariant-loop-above : goal.invariant-loop-above
invariant-loop-above l = record {
  within : l.above < 65536;
  behind : (h : ℕ) → l.above < h → is_idle l.self h ≡ false;
}

abbrev pub decreases-loop-above : goal.decreases-loop-above
decreases-loop-above l = l.above
