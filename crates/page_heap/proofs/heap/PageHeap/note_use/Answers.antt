use Rattle.std.proofs.Common.{◌≡◌, ℕ, not, get_or, map, count_by, ap, ◌∙◌, arith}
use Rattle.page_heap.proofs.Common.{Heap, is_free_backed, Cache, over_count, Inside, heap_of, cache_of, IsKept, over_limit}
use Rattle.huge_cache.specs.Cache.{noted}
use Rattle.page_heap.proofs.Steps.{count-map}
use Rattle.page_heap.proofs.Frames.{map-map, map_same, not-not}
use Rattle.page_heap.proofs.heap.PageHeap.note_use.Goals as goal

ready_is : (heap : Heap) → count_by (λ b. b) (map not (cache_of heap).unready) ≡ count_by is_free_backed heap.hugepages
ready_is heap =
    ap (count_by (λ b. b))
    (map-map not (λ x. not (is_free_backed x)) heap.hugepages ∙ map_same (λ x. not (not (is_free_backed x))) is_free_backed heap.hugepages
    (λ k d l. not-not (is_free_backed (get_or heap.hugepages k d))))
    ∙ count-map is_free_backed heap.hugepages

-- what is above the limit, with a use count more
over_is : (t : Inside) → IsKept t → (cache : Cache) (n : ℕ) → cache ≡ noted t.cache n → over_count cache ≡ over_limit (heap_of (record t { cache = cache }))
over_is t kept cache n e =
    let heap : Heap = heap_of t in
    grind (arith, ready_is heap)

pub returns-clause-over : goal.returns-clause-over
returns-clause-over c = grind (arith, over_is, c.from.ensures, c.from-2.ensures, c.over.ensures, c.self.invariant, c.note_use.ensures)
