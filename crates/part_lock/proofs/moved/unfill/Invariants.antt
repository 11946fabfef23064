use Rattle.std.proofs.Common.{◌≡◌, ◌≤◌, ◌+◌, ◌++◌, map, reverse, vec_len, vec_capacity}
use Rattle.part_lock.specs.declared.view.Stall.{Stall}
use Rattle.part_lock.proofs.moved.unfill.Given as goal

abbrev pub invariant-loop-stall : goal.invariant-loop-stall
invariant-loop-stall g l = record {
  room : vec_len l.parts + vec_len l.stalls ≤ vec_capacity l.parts;
  so_far : l.parts.items ++ map (λ (x : Stall _). x.part) (reverse l.stalls.items) ≡ map (λ (x : Stall _). x.part) (reverse l.initial.stalls.items);
}

abbrev pub decreases-loop-stall : goal.decreases-loop-stall
decreases-loop-stall g l = vec_len l.stalls
