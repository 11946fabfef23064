use Rattle.std.proofs.Common.{◌≡◌, ◌+◌, ◌-◌, ◌++◌, length, drop, reverse}
use Rattle.thread_cache.proofs.stack.Stack.take.Given as goal

-- what came so far are the last objects, last first
abbrev pub invariant-loop-taken : goal.invariant-loop-taken
invariant-loop-taken l =
    (l.out.items ≡ l.initial.out.items ++ reverse (drop (length l.self-inside.objects.items - l.taken) l.self-inside.objects.items))
    × (l.out.spare + l.taken ≡ l.initial.out.spare)
