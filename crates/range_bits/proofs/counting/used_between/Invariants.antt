use Rattle.std.proofs.Common.{◌≡◌, ◌+◌, ◌*◌, ◌/◌, take}
use Rattle.range_bits.proofs.Common.{used_count, row_of}
use Rattle.range_bits.proofs.counting.used_between.Given as goal

abbrev pub invariant-loop-index : goal.invariant-loop-index
invariant-loop-index l = l.used + used_count (take (64 * (l.start / 64)) (row_of l.words)) ≡ used_count (take (64 * l.index) (row_of l.words))
