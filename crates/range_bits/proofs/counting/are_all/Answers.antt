use Rattle.std.proofs.Common.{arith}
use Rattle.range_bits.proofs.Common.{nat_tests}
use Rattle.range_bits.proofs.Alike.{all_alike, each_alike}
use Rattle.range_bits.proofs.counting.are_all.Goals as goal

pub returns-then-words-index : goal.returns-then-words-index
returns-then-words-index c = grind (arith, nat_tests, each_alike c.args.words.now c.args.used c.loop-index.index)

pub returns : goal.returns
returns c = grind (arith, nat_tests, all_alike c.args.words.now c.args.used)
