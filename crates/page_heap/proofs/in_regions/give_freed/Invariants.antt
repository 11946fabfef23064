use Rattle.page_heap.proofs.Common.{Heap, IsTold, AreFreed}
use Rattle.page_heap.proofs.in_regions.give_freed.Given as goal

abbrev pub invariant-loop-place : goal.invariant-loop-place
invariant-loop-place l = record { freed : (heap : Heap) → IsTold l.table heap → AreFreed l.fn.cache l.cache heap l.first.0 l.place }
