use Rattle.std.proofs.Common.{◌≡◌, map}
use Rattle.std.specs.List.{range_with_len}
use Rattle.heap_rules.specs.Heap.{row_of}
use Rattle.tc_machine.proofs.finish.rows_of.Given as goal

abbrev pub invariant-loop-place : goal.invariant-loop-place
invariant-loop-place l = l.rows.items ≡ map (row_of l.heap) (range_with_len 1 l.place)
