use Rattle.std.proofs.Common.{◌≡◌, ◌≤◌, ◌+◌, ◌++◌, All, map, reverse, vec_len, vec_capacity}
use Rattle.part_lock.specs.Lock.{Mine, IsMain}
use Rattle.part_lock.specs.Joins.{JoinsAll, Fit}
use Rattle.part_lock.proofs.joined.join_fitting.Given as goal

abbrev pub invariant-loop-worker : goal.invariant-loop-worker
invariant-loop-worker g l = record {
  room : vec_len l.locals + vec_len l.workers ≤ vec_capacity l.locals;
  table : l.main.table_id ≡ l.initial.main.table_id;
  main : (m : _) × IsMain l.parts.key m l.main.me;
  fits : All (λ w. Fit l.parts.table.shared.table_id l.parts.key w.hand) l.workers.items;
  so_far : l.locals.items ++ map (λ w. w.hand.local) (reverse l.workers.items) ≡ map (λ w. w.hand.local) (reverse l.initial.workers.items);
  joins : (me : Mine _ _ _) → JoinsAll l.parts.key l.main.me (map (λ w. w.hand) (reverse l.workers.items)) me
      → JoinsAll l.parts.key l.initial.main.me (map (λ w. w.hand) (reverse l.initial.workers.items)) me;
}

abbrev pub decreases-loop-worker : goal.decreases-loop-worker
decreases-loop-worker g l = vec_len l.workers
