-- What a run of memory nodes has to tell, and its law for an order.
use Rattle.std.specs.Prelude.{◌≡◌, ℕ, ◌+◌, ◌*◌, List, [], ◌++◌, length, map, sum_by, fold, Some, slice_get}
use Rattle.std.specs.List.{range_with_len, slice_index_or}
use Rattle.tc_units.specs.declared.rows.RowView.{RowView}
use Rattle.tc_model.specs.declared.answers.Finished.{Finished}
use Rattle.tc_model.specs.Blocks.{live_count, live_bytes}
use Rattle.tc_model.specs.Input.{Input}
use Rattle.tc_model.specs.Run.{run}
use Rattle.heap_rules.specs.Heap.{Heap, opened, used_pages, backed_pages, row_of}
use Rattle.alloc_rules.specs.declared.part.Part.TheVariants as part
use Rattle.alloc_rules.specs.Lawful.{IsLawfulOrder}
use Rattle.alloc_rules.specs.Machine.{heap_config}
use Rattle.tc_machine.specs.Finish.{heap_by}
use Rattle.tc_units.specs.declared.spans.Run.{Run}
use Rattle.call_steps.specs.declared.setting.Setting.{Setting}
use Rattle.alloc_rules.specs.Inputs.{setting_of}
use Rattle.node_rules.specs.Numa.{NodePart, numa_rules, numa_calls}
use Rattle.node_rules.specs.NumaLaw.{AreLawful, HoldsAfter}

-- the hugepages of all nodes
abbrev pub arena : ℕ → Input → ℕ
arena nodes input = nodes * input.asked.config.huge

-- node k's heap among the parts, which is behind its shards
abbrev pub heap_place : Setting → ℕ → ℕ
heap_place setting k = k * (length setting.table + 3) + length setting.table

abbrev pub heap_at : Setting → List NodePart → ℕ → Heap
heap_at setting parts k = let first = opened (heap_config setting.config) in heap_by first (slice_index_or parts (heap_place setting k) (part.Heap first))

-- It is there, with as many hugepages as the heads say.
pub record HasHeap (setting : Setting) (parts : List NodePart) (k : ℕ) : Type 0 where
  pub heap : Heap
  pub there : slice_get parts (heap_place setting k) ≡ Some (part.Heap heap)
  pub limits : heap.config.huge ≡ setting.config.huge

-- a sum over the heaps of the first n nodes, and the pages of their live runs
abbrev pub over_nodes : (Heap → ℕ) → Setting → List NodePart → ℕ → ℕ
over_nodes count setting parts n = sum_by (λ k. count (heap_at setting parts k)) (range_with_len 0 n)

abbrev pub runs_to : Setting → List NodePart → ℕ → ℕ
runs_to setting parts n = sum_by (λ k. sum_by (λ (x : Run). x.pages) (heap_at setting parts k).runs) (range_with_len 0 n)

-- the measures of their hugepages, one node behind the other
abbrev pub rows_to : Setting → List NodePart → ℕ → List RowView
rows_to setting parts n = fold (λ rows k. rows ++ map (row_of (heap_at setting parts k)) (range_with_len 1 setting.config.huge)) [] (range_with_len 0 n)

-- The calls in the order in which they were decided, the blocks that they leave, and the pages and hugepages of all nodes.
abbrev pub finished_in : ℕ → Input → List ℕ → Finished
finished_in nodes input order =
    let w = run (numa_rules nodes input) order in
    let lines = numa_calls w.locals order in
    record {
      calls = lines;
      live = live_count lines;
      live_bytes = live_bytes lines;
      used = over_nodes used_pages (setting_of input) w.parts nodes;
      resident = over_nodes backed_pages (setting_of input) w.parts nodes;
      rows = rows_to (setting_of input) w.parts nodes;
    }

-- The law for an order each of whose picks moves.
abbrev pub IsLawful : ℕ → Input → List ℕ → Type 0
IsLawful nodes input order = IsLawfulOrder (numa_rules nodes input) (AreLawful nodes input) (HoldsAfter nodes input) input.asked.config.events order
