use Rattle.std.proofs.Common.{arith}
use Rattle.range_bits.proofs.Common.{nat_tests}
use Rattle.range_bits.proofs.RowFacts.{length-row_of, next_range_is}
use Rattle.range_bits.proofs.ranges.next_range.Goals as goal

pub returns : goal.returns
returns c = grind (arith, nat_tests, length-row_of, next_range_is)
