use Rattle.std.proofs.Common.{◌≡◌, length, arith}
use Rattle.sorted_list.proofs.Common.{nat_tests, length-append}
use Rattle.sorted_list.proofs.Slots.{counted_more}
use Rattle.sorted_list.proofs.list.SortedList.open.Goals as goal

pub loop-slot-preserved : goal.loop-slot-preserved
loop-slot-preserved g c = grind (arith, nat_tests, length-append, counted_more)

pub invariant_of-result : goal.invariant_of-result
invariant_of-result g c =
    let size : length c.in_ok-vec.field-0.items ≡ c.loop-slot.slot = omega (arith, c.in_ok-vec.ensures.len, c.in_ok-vec.field-0.ok.0) in
    grind (arith, nat_tests, c.loop-slot.invariant.once)
