-- What a run has to tell.
use Rattle.std.specs.Prelude.{ℕ, ◌+◌, List, length, map}
use Rattle.std.specs.List.{range_with_len, slice_index_or}
use Rattle.tc_model.specs.declared.answers.Finished.{Finished}
use Rattle.tc_model.specs.Blocks.{live_count, live_bytes}
use Rattle.tc_model.specs.Input.{Asked}
use Rattle.tc_model.specs.Run.{run}
use Rattle.heap_rules.specs.Heap.{Heap, opened, used_pages, backed_pages, row_of}
use Rattle.call_steps.specs.Calls.{About}
use Rattle.call_steps.specs.Fronts.{FrontRules}
use Rattle.alloc_rules.specs.declared.part.Part.{Part}
use Rattle.alloc_rules.specs.declared.part.Part.TheVariants as part
use Rattle.alloc_rules.specs.Machine.{heap_config, rules}
use Rattle.alloc_rules.specs.Law.{calls}
use Rattle.tc_machine.specs.declared.totals.Totals.{Totals}

-- what is told of a run beside its calls, of which the number is
abbrev pub totals_of : Finished → Totals
totals_of f = record { calls = length f.calls; live = f.live; live_bytes = f.live_bytes; used = f.used; resident = f.resident; rows = f.rows }

-- the heap among parts, which is behind the shards
abbrev pub heap_by : {P : Type 0} → Heap → Part P → Heap
heap_by other (part.Heap heap) = heap
heap_by other part = other

abbrev pub heap_in : {P V R : Type 0} → FrontRules P V R → Asked → List (Part P) → Heap
heap_in r asked parts = let first = opened (heap_config asked.config) in heap_by first (slice_index_or parts (r.split + length r.calls.rows) (part.Heap first))

-- after the picks of an order: the calls in the order in which they were decided, the blocks that they leave, and the pages of the heap
abbrev pub finished_in : {P V R : Type 0} → FrontRules P V R → (R → About) → Asked → List ℕ → Finished
finished_in r about asked order =
    let w = run (rules r about asked) order in
    let lines = calls w.locals order in
    let heap = heap_in r asked w.parts in
    record {
      calls = lines;
      live = live_count lines;
      live_bytes = live_bytes lines;
      used = used_pages heap;
      resident = backed_pages heap;
      rows = map (row_of heap) (range_with_len 1 heap.config.huge);
    }
