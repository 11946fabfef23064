use Rattle.std.proofs.Common.{◌≡◌, ◌-◌}
use Rattle.range_bits.proofs.Common.{best, row_of}
use Rattle.range_bits.proofs.narrowing.best_of_four.Given as goal

abbrev pub invariant-loop-place : goal.invariant-loop-place
invariant-loop-place l = best (row_of l.rest) (l.n - l._place) ≡ best (row_of l.fn.words) l.n
