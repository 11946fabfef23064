use Rattle.std.proofs.Common.{◌≡◌, ◌≤◌, ◌+◌, ◌++◌, [], All, map, reverse, vec_len, vec_capacity}
use Rattle.part_lock.specs.declared.view.Stall.{Stall}
use Rattle.part_lock.proofs.moved.fill.Given as goal

abbrev pub invariant-loop-part : goal.invariant-loop-part
invariant-loop-part g l = record {
  room : vec_len l.stalls + vec_len l.parts ≤ vec_capacity l.stalls;
  so_far : map (λ (x : Stall _). x.part) l.stalls.items ++ reverse l.parts.items ≡ reverse l.initial.parts.items;
  bare : All (λ (x : Stall _). x.entries.items ≡ []) l.stalls.items;
}

abbrev pub decreases-loop-part : goal.decreases-loop-part
decreases-loop-part g l = vec_len l.parts
