use Rattle.std.proofs.Common.{◌+◌, arith}
use Rattle.range_bits.proofs.Cuts.{cut_is}
use Rattle.range_bits.proofs.words.keep_used.Goals as goal

pub returns-clause-stays : goal.returns-clause-stays
returns-clause-stays c = cut_is c.args.words.now c.args.other.now c.loop-index.words c.args.first c.loop-index.index (c.args.first + c.args.count) (omega arith) (omega arith) (omega arith) c.requires.other c.loop-index.invariant
