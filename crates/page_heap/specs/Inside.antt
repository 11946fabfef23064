-- The heap that a page heap means, and what each chooser is told of it.
use Rattle.std.specs.Prelude.{◌≡◌, ℕ, not, ◌&&◌, List, map, count_by, sum_by, Option, Some, None, if◌then◌else◌, Contains}
use Rattle.std.specs.List.{enumerate_from}
use Rattle.tc_units.specs.declared.spans.Run.{Run}
use Rattle.heap_rules.specs.Heap.{Heap, Hugepage, backs, tier, is_used, pages_of, used_count, longest_range, allocation_count, is_filler}
use Rattle.heap_rules.specs.Choice.{taken_row, unready_row, region_rows}
use Rattle.heap_rules.specs.Sound.{AreLimits, IsSound}
use Rattle.huge_table.specs.Means.{Means}
use Rattle.huge_table.specs.Runs.{runs_of, AreInOrder, TellsRuns}
use Rattle.huge_filler.specs.declared.measures.Measures.{Measures}
use Rattle.huge_cache.specs.Cache.{Cache}
use Rattle.huge_region.specs.Regions.{Regions}
use Rattle.page_heap.specs.Routes.{IsRouted}
use Rattle.page_heap.specs.declared.heap.PageHeap.TheInside.{Inside}

-- The table knows what each hugepage is and which runs live, the regions are the chooser's, and the cache keeps the counts.
abbrev pub heap_of : Inside → Heap
heap_of t = record { config = t.config; runs = runs_of t.table; regions = map (λ r. r.first) t.regions.rows; hugepages = t.table.pages; counts = t.cache.counts }

-- What each chooser is of a heap.
-- the filler: the measures of each hugepage that is the filler's
abbrev pub spare_of : List Run → ℕ → Hugepage → ℕ
spare_of runs h x = count_by (λ page. backs x page && not (is_used runs page)) (pages_of h)

abbrev pub measures_of : List Run → ℕ → Hugepage → Measures
measures_of runs h x = record { tier = tier x; longest = longest_range runs h; allocs = allocation_count runs h; used = used_count runs h; spare = spare_of runs h x; donated = x.donated }

abbrev pub measured : List Run → ℕ → Hugepage → Option Measures
measured runs h x = if is_filler x then Some (measures_of runs h x) else None

abbrev pub measures : Heap → List (Option Measures)
measures heap = map (λ p. measured heap.runs p.0 p.1) (enumerate_from 1 heap.hugepages)

-- the free hugepages
abbrev pub cache_of : Heap → Cache
cache_of heap = record { most = heap.config.cache; window = heap.config.window; taken = taken_row heap; unready = unready_row heap; counts = heap.counts }

-- the regions
abbrev pub regions_of : Heap → Regions
regions_of heap = record { huge = heap.config.huge; width = heap.config.region; rows = region_rows heap }

-- the fields of a page heap show a heap where each is what it is of that heap
pub record Shows (t : Inside) (heap : Heap) : Type 0 where
  pub config : t.config ≡ heap.config
  pub means : Means t.table heap
  pub runs : TellsRuns t.table
  pub filler : t.filler ≡ measures heap
  pub cache : t.cache ≡ cache_of heap
  pub regions : t.regions ≡ regions_of heap
  pub used : t.used ≡ sum_by (λ run. run.pages) heap.runs

-- what holds of the heap that a page heap means, and of its fields
pub record IsWell (heap : Heap) : Type 0 where
  pub limits : AreLimits heap.config
  pub sound : IsSound heap
  pub ordered : AreInOrder heap.runs
  pub routed : (run : Run) → Contains heap.runs run → IsRouted heap run

pub record IsKept (t : Inside) : Type 0 where
  pub shows : Shows t (heap_of t)
  pub well : IsWell (heap_of t)
