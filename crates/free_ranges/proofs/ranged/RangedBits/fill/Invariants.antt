use Rattle.std.proofs.Common.{◌≡◌, ℕ, ◌+◌, ◌-◌, ◌<◌, ◌≤◌, true, length, get_or}
use Rattle.free_ranges.proofs.Common.{with_places}
use Rattle.free_ranges.proofs.ranged.RangedBits.fill.Given as goal

abbrev pub invariant-loop-end : goal.invariant-loop-end
invariant-loop-end l = record {
  len : length l.self ≡ length l.fn.self;
  within : l.end ≤ l.start + l.n;
  rest : with_places l.self l.start l.n true ≡ with_places l.fn.self l.start l.n true;
  used : (k : ℕ) → l.end ≤ k → k < l.start + l.n → get_or l.self k true ≡ true;
}

abbrev pub decreases-loop-end : goal.decreases-loop-end
decreases-loop-end l = l.end - l.start
