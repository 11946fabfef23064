use Rattle.std.proofs.Common.{◌≡◌, ◌+◌, ◌≤◌, take, length, vec_len, vec_capacity}
use Rattle.merge_journal.specs.Placed.{threads_among}
use Rattle.merge_journal.proofs.threads.threads_of.Given as goal

abbrev pub invariant-loop-place : goal.invariant-loop-place
invariant-loop-place g l =
    (l.threads.items ≡ threads_among (take l.place-index l.fn.placed)) × (vec_len l.threads ≤ l.place-index) × (length l.fn.placed ≤ vec_capacity l.threads)
    × (l.steps ≡ l.fn.steps + l.place-index)
