use Rattle.std.proofs.Common.{◌≡◌, ℕ, ◌-◌, ◌<◌, ◌^◌, get_or}
use Rattle.span_list.proofs.free_set.FreeSet.first.Given as goal

-- in each word so far every bit is set
abbrev pub invariant-loop-place : goal.invariant-loop-place
invariant-loop-place l =
    (k : ℕ) → k < l.place → get_or l.self-inside.taken.items k 0 ≡ 2 ^ 64 - 1
