use Rattle.range_bits.proofs.Joined.{joined_bit}
use Rattle.range_bits.proofs.narrowing.joined.Goals as goal

pub returns : goal.returns
returns c = joined_bit c.args.word c.args.next c.ranges.word.fits
