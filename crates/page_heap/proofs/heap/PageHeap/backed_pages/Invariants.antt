use Rattle.std.proofs.Common.{◌≡◌, take, sum_by}
use Rattle.page_heap.proofs.Common.{backed_count}
use Rattle.page_heap.proofs.heap.PageHeap.backed_pages.Given as goal

abbrev pub invariant-loop-place : goal.invariant-loop-place
invariant-loop-place l = l.pages ≡ sum_by backed_count (take l.place l.self.hugepages)
