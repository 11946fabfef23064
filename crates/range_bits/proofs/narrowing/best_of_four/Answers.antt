use Rattle.std.proofs.Common.{arith, ◌+◌, ◌-◌}
use Rattle.range_bits.proofs.Common.{row_of, nat_tests}
use Rattle.range_bits.proofs.Narrowed.{narrowed_best}
use Rattle.range_bits.proofs.narrowing.best_of_four.Goals as goal

pub loop-place-preserved : goal.loop-place-preserved
loop-place-preserved c = grind (arith, nat_tests, narrowed_best (row_of c.loop-place.rest) (row_of c.narrowed-rest.result) c.narrowed-rest.ensures (c.args.n - (c.loop-place._place + 1)))
