-- What a step of the page heap answers, and what it tells the choosers of a hugepage.
use Rattle.std.specs.Prelude.{ℕ, ◌-◌, ◌==◌, List, Option, Some, None, option_map, slice_set, if◌then◌else◌}
use Rattle.std.specs.List.{list_all}
use Rattle.tc_units.specs.Units.{huge_pages}
use Rattle.tc_units.specs.declared.spans.Run.{Run}
use Rattle.tc_units.specs.declared.rows.RowView.{RowView}
use Rattle.tc_units.specs.declared.rows.RowKind.TheVariants as kind
use Rattle.heap_rules.specs.Heap.{Heap, Hugepage, hugepage, is_free, is_kind}
use Rattle.heap_rules.specs.New.{Placed}
use Rattle.heap_rules.specs.Sound.{IsSound}
use Rattle.huge_table.specs.Table.{Table}
use Rattle.huge_table.specs.Means.{Means}
use Rattle.huge_filler.specs.declared.measures.Measures.{Measures}
use Rattle.huge_cache.specs.Cache.{Cache, with_huge}
use Rattle.page_heap.specs.Inside.{measured}

-- a run, if there is one, and the heap in which it lives
abbrev pub answered : Heap → Option Run → Option Placed
answered heap run = option_map (λ r. record { run = r; heap = heap }) run

-- a sound heap that a table means
pub record IsTold (table : Table) (heap : Heap) : Type 0 where
  pub sound : IsSound heap
  pub means : Means table heap

-- what the filler is told of a hugepage, by how it is shown
abbrev pub measures_by : RowView → Option Measures
measures_by row =
    if is_kind kind.Filler row.kind then
    Some (record {
      tier = (if row.backed == huge_pages then (if row.donated then 1 else 0) else 2);
      longest = row.longest;
      allocs = row.allocs;
      used = row.used;
      spare = row.backed - row.used;
      donated = row.donated;
    }) else None

-- the measures, where those of hugepage h are what they are of a heap
abbrev pub remeasured : List (Option Measures) → Heap → ℕ → List (Option Measures)
remeasured all heap h = slice_set all (h - 1) (measured heap.runs h (hugepage heap h))

-- the free hugepages with hugepage h, where it is free, by how it is shown and as it is
abbrev pub with_shown : Cache → ℕ → RowView → Cache
with_shown cache h row = if is_kind kind.Free row.kind then with_huge cache h (row.backed == huge_pages) else cache

abbrev pub with_freed : Cache → ℕ → Hugepage → Cache
with_freed cache h x = if is_free x then with_huge cache h (list_all (λ b. b) x.backed) else cache
