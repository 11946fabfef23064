-- Settling: how many free hugepages stay backed.
use Rattle.std.specs.Prelude.{ℕ, false, not, List, map, count_by, if◌then◌else◌}
use Rattle.heap_rules.specs.Heap.{Heap, Hugepage, each, whole, is_free, is_free_backed}
use Rattle.heap_rules.specs.CacheFlags.{is_over, with_count, limit}

-- a hugepage without its backing
abbrev pub unbacked : Hugepage → Hugepage
unbacked x = record x { backed = whole false }

-- the use counts with the number of hugepages that aren't free
abbrev pub counted : Heap → List ℕ
counted heap = with_count heap.config.window heap.counts (count_by (λ x. not (is_free x)) heap.hugepages)

-- The heap with these: a backed free hugepage loses its backing where at least as many stand before it as the limit says.
abbrev pub settled : Heap → Heap
settled heap = record heap {
  hugepages = each (λ h x. if is_over (limit heap.config.cache (counted heap)) (map is_free_backed heap.hugepages) h then unbacked x else x) heap.hugepages;
  counts = counted heap;
}
