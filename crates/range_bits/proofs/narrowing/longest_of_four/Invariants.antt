use Rattle.std.proofs.Common.{◌≡◌, ◌+◌}
use Rattle.range_bits.proofs.Common.{longest, row_of}
use Rattle.range_bits.proofs.narrowing.longest_of_four.Given as goal

abbrev pub invariant-loop-lost : goal.invariant-loop-lost
invariant-loop-lost l = longest (row_of l.rest) + l.lost ≡ longest (row_of l.fn.words)
