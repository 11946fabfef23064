use Rattle.std.proofs.Common.{◌≡◌, ℕ, ◌<◌, ◌≤◌, not}
use Rattle.range_bits.proofs.Common.{is_marked}
use Rattle.range_bits.proofs.words.end_place.Given as goal

abbrev pub invariant-loop-end : goal.invariant-loop-end
invariant-loop-end l = record {
  within : l.end ≤ l.before;
  behind : (k : ℕ) → l.end ≤ k → k < l.before → is_marked l.words k ≡ not l.used;
}

abbrev pub decreases-loop-end : goal.decreases-loop-end
decreases-loop-end l = l.end
