use Rattle.std.proofs.Common.{◌++◌, List, [], map}
use Rattle.std.specs.List.{range_with_len}
use Rattle.tc_units.specs.declared.rows.RowView.{RowView}
use Rattle.heap_rules.specs.Heap.{row_of}
use Rattle.numa_heaps.specs.Machine.{heap_at}
use Rattle.numa_heaps.proofs.Ranges.{fold_more}
use Rattle.numa_heaps.proofs.finish.rows_of_nodes.Goals as goal

pub loop-k-preserved : goal.loop-k-preserved
loop-k-preserved c =
    let s = c.args.setting.now in
    let all = fold_more (λ (rows : List RowView) k. rows ++ map (row_of (heap_at s c.args.parts.now k)) (range_with_len 1 s.config.huge)) [] c.loop-k.k in
    rw (c.in_ok-extend_from_slice.ensures.items, c.deref.ensures.value, c.in_ok-rows_of.ensures, c.heap_at-heap.ensures.is, c.loop-k.invariant, all)
