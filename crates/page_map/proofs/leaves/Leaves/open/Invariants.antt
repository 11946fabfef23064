use Rattle.std.proofs.Common.{◌≡◌, ℕ, None, length}
use Rattle.page_map.specs.Begins.{begin_at}
use Rattle.page_map.proofs.leaves.Leaves.open.Given as goal

abbrev pub invariant-loop-huge : goal.invariant-loop-huge
invariant-loop-huge l = record { size : length l.leaves.items ≡ l._huge; none : (page : ℕ) → begin_at l.leaves.items page ≡ None }
