use Rattle.std.proofs.Common.{◌≡◌, ℕ, ◌<◌, false, nat_lt, length}
use Rattle.std.specs.Prelude.{slice_index}
use Rattle.journal_audit.specs.Rules.{script_at}
use Rattle.journal_audit.proofs.books.has_left.Given as goal

-- no thread so far has a call left
abbrev pub invariant-loop-thread : goal.invariant-loop-thread
invariant-loop-thread l = (k : ℕ) → k < l.thread → nat_lt (slice_index l.done k) (length (script_at l.scripts k)) ≡ false
