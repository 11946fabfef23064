use Rattle.std.proofs.Common.{◌≡◌, ◌≤◌, nat_le, filter}
use Rattle.huge_cache.proofs.Common.{deque_len, deque_capacity, IsFalling}
use Rattle.huge_cache.proofs.uses.drop_below.Given as goal

abbrev pub invariant-loop-last : goal.invariant-loop-last
invariant-loop-last l = record {
  falling : IsFalling l.greatest.items;
  kept : filter (λ x. nat_le l.count x) l.greatest.items ≡ filter (λ x. nat_le l.count x) l.fn.greatest.items;
  len : deque_len l.greatest ≤ deque_len l.fn.greatest;
  room : deque_capacity l.greatest ≡ deque_capacity l.fn.greatest;
}

abbrev pub decreases-loop-last : goal.decreases-loop-last
decreases-loop-last l = deque_len l.greatest
