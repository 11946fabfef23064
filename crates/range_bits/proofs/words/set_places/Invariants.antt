use Rattle.std.proofs.Common.{◌*◌, min}
use Rattle.range_bits.proofs.Placing.{Placed}
use Rattle.range_bits.proofs.words.set_places.Given as goal

abbrev pub invariant-loop-index : goal.invariant-loop-index
invariant-loop-index l = Placed l.fn.words l.words l.start (min l.end (64 * l.index)) l.used
