use Rattle.std.proofs.Common.{◌≡◌, ◌++◌, take, vec_capacity}
use Rattle.transfer_cache.proofs.cache.TransferCache.put.Given as goal

-- the objects so far are appended
abbrev pub invariant-loop-object : goal.invariant-loop-object
invariant-loop-object l =
    (l.self-inside.objects.items ≡ l.initial.self-inside.objects.items ++ take l.object-index l.list) × (l.self-inside.room ≡ l.initial.self-inside.room) × (vec_capacity l.self-inside.objects ≡ vec_capacity l.initial.self-inside.objects)
