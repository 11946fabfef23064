-- What a free leaves.
use Rattle.std.specs.Prelude.{ℕ, false, true, ◌==◌, ◌&&◌, not, List, filter, if◌then◌else◌}
use Rattle.std.specs.List.{list_all, list_any}
use Rattle.tc_units.specs.declared.spans.Run.{Run}
use Rattle.tc_units.specs.declared.rows.RowKind.{RowKind}
use Rattle.tc_units.specs.declared.rows.RowKind.TheVariants as kind
use Rattle.heap_rules.specs.Heap.{Heap, Hugepage, each, whole, without_run, reaches, allocation_count, is_region, spans, region_row}
use Rattle.heap_rules.specs.Settle.{settled}

-- a hugepage of the filler whose last run has left: it stays backed where all of it is backed
abbrev pub emptied : Hugepage → Hugepage
emptied x = record { kind = kind.Free; donated = false; backed = whole (list_all (λ b. b) x.backed) }

-- a hugepage that a run has left, by what it serves: one of the filler with no run left is emptied, that of a run
-- becomes free and backed, and others stay
abbrev pub left_by : RowKind → List Run → ℕ → Hugepage → Hugepage
left_by kind.Filler runs h x = if allocation_count runs h == 0 then emptied x else x
left_by kind.Run runs h x = record { kind = kind.Free; donated = false; backed = whole true }
left_by other runs h x = x

-- the heap after a run has left each hugepage that it reached
abbrev pub left : Heap → Run → Heap
left heap run = record heap {
  runs = without_run run heap.runs;
  hugepages = each (λ h x. if reaches h run then left_by x.kind (without_run run heap.runs) h x else x) heap.hugepages;
}

-- the regions with a used page, and the heap without the others, whose hugepages become free with their backing
abbrev pub used_regions : Heap → List ℕ
used_regions heap = filter (λ r. list_any (λ b. b) (region_row heap.runs heap.config.region r)) heap.regions

abbrev pub without_unused_regions : Heap → Heap
without_unused_regions heap = record heap {
  regions = used_regions heap;
  hugepages = each (λ h x. if is_region x && not (list_any (spans heap.config.region h) (used_regions heap)) then record x { kind = kind.Free } else x) heap.hugepages;
}

-- The heap after a live run is given back, before it settles, and after the run is freed.
abbrev pub given_back : Heap → Run → Heap
given_back heap run = without_unused_regions (left heap run)

abbrev pub freed : Heap → Run → Heap
freed heap run = settled (given_back heap run)
