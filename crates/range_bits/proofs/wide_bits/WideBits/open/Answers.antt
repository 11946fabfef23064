use Rattle.std.proofs.Common.{arith}
use Rattle.range_bits.proofs.Common.{nat_tests, length-replicate}
use Rattle.range_bits.proofs.Counts.{row_of-zeros}
use Rattle.range_bits.proofs.wide_bits.WideBits.open.Goals as goal

pub invariant_of-result : goal.invariant_of-result
invariant_of-result c = grind (arith, nat_tests, length-replicate)

pub returns : goal.returns
returns c = grind (arith, nat_tests, row_of-zeros)
