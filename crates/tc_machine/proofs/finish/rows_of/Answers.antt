use Rattle.std.proofs.Common.{◌+◌, arith}
use Rattle.std.proofs.lemmas.List.FromFn.{map-range_with_len_more}
use Rattle.heap_rules.specs.Heap.{row_of}
use Rattle.tc_machine.proofs.finish.rows_of.Goals as goal

pub loop-place-preserved : goal.loop-place-preserved
loop-place-preserved c =
    let heap = c.args.heap.now in
    let place = c.loop-place.place in
    grind (arith, map-range_with_len_more (row_of heap) 1 place (place + 1))
