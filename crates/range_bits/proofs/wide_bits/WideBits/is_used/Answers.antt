use Rattle.std.proofs.Common.{eqb, arith}
use Rattle.range_bits.proofs.Common.{nat_tests, get_or_read, shr_and_one}
use Rattle.range_bits.proofs.RowFacts.{get_or-row_of, places_of}
use Rattle.range_bits.proofs.wide_bits.WideBits.is_used.Goals as goal

pub returns : goal.returns
returns c = grind (arith, nat_tests, get_or_read, places_of, get_or-row_of, shr_and_one, eqb)
