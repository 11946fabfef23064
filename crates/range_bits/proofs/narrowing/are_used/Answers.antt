use Rattle.std.proofs.Common.{arith}
use Rattle.range_bits.proofs.Joined.{used_words}
use Rattle.range_bits.proofs.narrowing.are_used.Goals as goal

pub returns : goal.returns
returns c = used_words c.args.words (omega arith) c.element_fits.fits
