-- What a finished run of memory nodes tells, from all that holds after its order.
use Rattle.std.proofs.Common.{◌≡◌, ℕ, zero, suc, ◌+◌, ◌*◌, ◌<◌, ◌≤◌, List, length, map, Some, sym, ap, ◌∙◌, subst, arith}
use Rattle.std.specs.Prelude.{slice_get, sum_by}
use Rattle.std.specs.List.{range_with_len}
use Rattle.tc_units.specs.Units.{page_bytes}
use Rattle.tc_units.specs.Classes.{length_of}
use Rattle.tc_units.specs.declared.spans.Run.{Run}
use Rattle.tc_units.specs.declared.rows.RowView.{RowView}
use Rattle.tc_model.specs.declared.answers.CallLine.{CallLine}
use Rattle.tc_model.specs.Blocks.{IsBlockRun, live_bytes}
use Rattle.tc_model.specs.Input.{Input}
use Rattle.tc_model.specs.Replays.{HaveEnded}
use Rattle.tc_model.specs.Run.{World, run, start, world_of}
use Rattle.heap_rules.specs.declared.config.HeapConfig.{HeapConfig}
use Rattle.heap_rules.specs.Heap.{Heap, used_pages, backed_pages}
use Rattle.call_steps.specs.declared.setting.Setting.{Setting}
use Rattle.alloc_rules.specs.Inputs.{setting_of}
use Rattle.tc_model.specs.Steps.{moving}
use Rattle.alloc_rules.proofs.Orders.{order_is}
use Rattle.node_rules.proofs.NodesLaw.{nodes_are_lawful}
use Rattle.alloc_rules.specs.declared.part.Part.TheVariants as part
use Rattle.alloc_rules.specs.Law.{calls}
use Rattle.alloc_rules.specs.Told.{TellsScripts}
use Rattle.alloc_rules.proofs.Numbers.{get_heap}
use Rattle.tc_machine.specs.declared.standing.Standing.{Standing}
use Rattle.tc_machine.specs.declared.totals.Totals.{Totals}
use Rattle.tc_machine.specs.Finish.{totals_of}
use Rattle.tc_machine.specs.Standing.{AreStanding}
use Rattle.node_rules.specs.Joined.{told_line, lines_at}
use Rattle.node_rules.specs.Beside.{Beside}
use Rattle.node_rules.specs.Numa.{NodeLocal, NodePart, numa_rules, numa_calls}
use Rattle.node_rules.specs.NumaLaw.{HoldsAfter, order_at}
use Rattle.tc_machine.specs.Inputs.{input_under}
use Rattle.numa_heaps.specs.declared.machine.NumaMachine.{NumaMachine}
use Rattle.numa_heaps.specs.Machine.{arena, finished_in, heap_at, heap_place, over_nodes, runs_to, rows_to, HasHeap}
use Rattle.numa_heaps.proofs.Pages.{heap_is}
use Rattle.numa_heaps.proofs.Ranges.{sum_next}

module _ {nodes : ℕ} {input : Input} {order : List ℕ} (h : HoldsAfter nodes input order) {parts : List NodePart} {locals : List (Beside NodeLocal)}
    (is : world_of parts locals ≡ run (numa_rules nodes input) order) where
  abbrev setting : Setting
  setting = setting_of input

  abbrev w : World NodePart (Beside NodeLocal)
  w = run (numa_rules nodes input) order

  parts_are : parts ≡ w.parts
  parts_are = ap (λ (v : World NodePart (Beside NodeLocal)). v.parts) is

  -- each node's heap is there
  heap_there : (k : ℕ) → (low : k < nodes) → slice_get parts (heap_place setting k) ≡ Some (part.Heap (h.at_nodes k low).holds.parts.heap)
  heap_there k low =
      let all = (h.at_nodes k low).holds in
      let classes : length input.rows ≡ 0 + length all.parts.shards = omega (arith, all.counts.shards) in
      rw parts_are ((h.at_nodes k low).of.parts (length input.rows) (omega arith) ∙ rw (all.is, classes) (get_heap 0 all.parts (omega arith)))

  pub has_heap : (k : ℕ) → k < nodes → HasHeap setting parts k
  has_heap k low =
      record {
        heap = (h.at_nodes k low).holds.parts.heap;
        there = heap_there k low;
        limits = ap (λ (c : HeapConfig). c.huge) (h.at_nodes k low).holds.config;
      }

  -- the calls that are told
  pub told_are : numa_calls locals order ≡ (finished_in nodes input order).calls
  told_are = ap (λ (v : World NodePart (Beside NodeLocal)). numa_calls v.locals order) is

  lines_are : {lines : List CallLine} → lines ≡ numa_calls locals order → lines ≡ map (told_line input.asked.config.huge) h.lines
  lines_are told = told ∙ (told_are ∙ h.told)

  pub blocks_are : {lines : List CallLine} → lines ≡ numa_calls locals order → IsBlockRun (arena nodes input) (length_of input.rows) lines
  blocks_are told = rw (lines_are told) h.joined.run

  pub scripts_are : {lines : List CallLine} → HaveEnded (numa_rules nodes input) w → lines ≡ numa_calls locals order → TellsScripts input.asked lines
  scripts_are ended told = subst (TellsScripts input.asked) (sym (told ∙ told_are)) (h.all_told ended)

  pub rising_is : (t : ℕ) (l : Beside NodeLocal) → slice_get locals t ≡ Some l → slice_get w.locals t ≡ Some l
  rising_is t l at = ap (λ (v : World NodePart (Beside NodeLocal)). slice_get v.locals t) (sym is) ∙ at

  pub totals_are : {lines : List CallLine} {s : Standing} {count bytes used resident : ℕ} {rows : List RowView}
      → lines ≡ numa_calls locals order → AreStanding lines s → count ≡ length lines → bytes ≡ live_bytes lines
      → used ≡ over_nodes used_pages setting parts nodes → resident ≡ over_nodes backed_pages setting parts nodes → rows ≡ rows_to setting parts nodes
      → (let t : Totals = record { calls = count; live = s.count; live_bytes = bytes; used = used; resident = resident; rows = rows } in
      t ≡ totals_of (finished_in nodes input order))
  totals_are told stand count_is bytes_are used_is resident_is rows_are =
      rw (count_is, stand.count, bytes_are, used_is, resident_is, rows_are, told, told_are, parts_are)

  -- the blocks of each node are among its live runs
  covered_to : (n : ℕ) → n ≤ nodes → sum_by (λ k. live_bytes (lines_at k h.lines)) (range_with_len 0 n) ≤ runs_to setting parts n * page_bytes
  covered_to zero few = omega arith
  covered_to (suc n) few =
      let low : n < nodes = omega (arith, few) in
      let all = (h.at_nodes n low).holds in
      let pages : Heap → ℕ = λ x. sum_by (λ (r : Run). r.pages) x.runs in
      let at : live_bytes (lines_at n h.lines) ≡ live_bytes (calls all.locals (order_at nodes input n order)) = rw (h.told_at n low, all.is) in
      let same = ap pages (heap_is setting parts n all.parts.heap (heap_there n low)) in
      let bytes = sum_next (λ k. live_bytes (lines_at k h.lines)) n in
      omega (arith, covered_to n (omega (arith, few)), at, all.covered, same, bytes, sum_next (λ k. pages (heap_at setting parts k)) n)

  pub covered_is : {lines : List CallLine} {bytes used resident : ℕ}
      → lines ≡ numa_calls locals order → bytes ≡ live_bytes lines → used ≡ runs_to setting parts nodes → used ≤ resident → bytes ≤ resident * page_bytes
  covered_is told bytes_are runs covers =
      omega (arith, bytes_are, ap live_bytes (lines_are told), h.joined.bytes, covered_to nodes (omega arith), runs, covers)

-- all that holds after an order whose picks move
pub holds_after : (m : NumaMachine) {order : List ℕ}
    → (let rules = numa_rules m.nodes.count (input_under m.setting m.trace.value) in moving rules (start rules) order ≡ order)
    → length order ≤ m.setting.config.events → HoldsAfter m.nodes.count (input_under m.setting m.trace.value) order
holds_after m {order} moves few =
    let input = input_under m.setting m.trace.value in
    (nodes_are_lawful m.nodes.count input m.nodes.some m.valid m.taken).holds order
    (order_is (numa_rules m.nodes.count input) order moves (omega (arith, few, m.few)))
