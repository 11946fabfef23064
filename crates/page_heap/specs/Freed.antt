-- The free hugepages, where those of a region that has ended become so.
use Rattle.std.specs.Prelude.{◌≡◌, ℕ, ◌<◌, ◌≤◌, true, false, not, length, if◌then◌else◌}
use Rattle.std.specs.List.{list_all}
use Rattle.heap_rules.specs.Numbered.{at_number}
use Rattle.heap_rules.specs.Heap.{Heap, hugepage, spans}
use Rattle.huge_cache.specs.Cache.{Cache}

-- adjacent hugepages have become free, as backed as they are in a heap
pub record AreFreed (old new : Cache) (heap : Heap) (first many : ℕ) : Type 0 where
  pub rest : new ≡ record old { taken = new.taken; unready = new.unready }
  pub size : length new.taken ≡ length old.taken
  pub unready_size : length new.unready ≡ length old.unready
  pub taken : (h : ℕ) → 0 < h → h ≤ length old.taken → at_number true new.taken h ≡ (if spans many h first then false else at_number true old.taken h)
  pub unready : (h : ℕ) → 0 < h → h ≤ length old.unready
      → at_number true new.unready h ≡ (if spans many h first then not (list_all (λ b. b) (hugepage heap h).backed) else at_number true old.unready h)
