use Rattle.std.proofs.Common.{◌+◌, ◌*◌, ◌<◌}
use Rattle.range_bits.proofs.RowFacts.{Skipped}
use Rattle.range_bits.proofs.words.next_place.Given as goal

abbrev pub invariant-loop-index : goal.invariant-loop-index
invariant-loop-index l = record {
  low : l.low < 64;
  skipped : Skipped l.words l.from l.used (64 * l.index + l.low);
}
