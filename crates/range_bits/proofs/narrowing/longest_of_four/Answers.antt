use Rattle.std.proofs.Common.{arith}
use Rattle.range_bits.proofs.Common.{row_of, nat_tests}
use Rattle.range_bits.proofs.Narrowed.{narrowed_longest}
use Rattle.range_bits.proofs.RangeLemmas.{longest-le-length}
use Rattle.range_bits.proofs.RowFacts.{length-row_of}
use Rattle.range_bits.proofs.narrowing.longest_of_four.Goals as goal

pub loop-lost-preserved : goal.loop-lost-preserved
loop-lost-preserved c = grind (arith, nat_tests, narrowed_longest (row_of c.loop-lost.rest) (row_of c.narrowed-rest.result) c.narrowed-rest.ensures)

pub overflow_add-result : goal.overflow_add-result
overflow_add-result c = grind (arith, longest-le-length (row_of c.loop-lost.rest), length-row_of c.loop-lost.rest)
