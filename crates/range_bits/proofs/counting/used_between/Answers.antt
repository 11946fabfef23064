use Rattle.std.proofs.Common.{arith}
use Rattle.range_bits.proofs.Common.{nat_tests, row_of}
use Rattle.range_bits.proofs.Counts.{used_behind, ones_of_word}
use Rattle.range_bits.proofs.counting.used_between.Goals as goal

pub overflow_add-used : goal.overflow_add-used
overflow_add-used c = grind (arith, nat_tests, ones_of_word)

pub loop-index-preserved : goal.loop-index-preserved
loop-index-preserved c = grind (arith, nat_tests, ones_of_word)

pub overflow_sub-result : goal.overflow_sub-result
overflow_sub-result c = grind (arith, used_behind (row_of c.args.words.now) c.args.start c.args.end c.requires.order)

pub returns : goal.returns
returns c = grind (arith, nat_tests, used_behind)
