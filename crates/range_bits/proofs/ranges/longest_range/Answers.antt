use Rattle.range_bits.proofs.Common.{row_of, nat_tests}
use Rattle.std.proofs.Common.{sym, arith}
use Rattle.range_bits.proofs.RowFacts.{length-row_of}
use Rattle.range_bits.proofs.Scan.{longest_is, longest_more}
use Rattle.range_bits.proofs.ranges.longest_range.Goals as goal

pub loop-from-preserved : goal.loop-from-preserved
loop-from-preserved c = grind (arith, nat_tests, longest_more)

pub returns : goal.returns
returns c = sym (longest_is (row_of c.args.words.now) c.loop-from.from c.loop-from.longest (omega (arith, length-row_of c.args.words.now)) c.loop-from.invariant.longest)
