use Rattle.std.proofs.Common.{◌≡◌, ℕ, length, [], get_or}
use Rattle.trace_reader.proofs.calls.Calls.new.Given as goal

-- each thread so far has no calls
abbrev pub invariant-loop-thread : goal.invariant-loop-thread
invariant-loop-thread l = record {
  threads : length l.scripts.items ≡ l._thread;
  none : (t : ℕ) → get_or l.scripts.items t [] ≡ [];
}
