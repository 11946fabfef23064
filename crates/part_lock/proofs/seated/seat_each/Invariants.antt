use Rattle.std.proofs.Common.{◌≡◌, ◌≤◌, ◌+◌, ◌++◌, All, length, map, reverse, vec_len, vec_capacity}
use Rattle.replay_workers.specs.Runs.{IsReady as IsWorkerReady}
use Rattle.part_lock.specs.Lock.{IsMain}
use Rattle.part_lock.specs.Joins.{Fit, lead_of, numbers}
use Rattle.part_lock.specs.Turns.{IsFresh}
use Rattle.part_lock.proofs.seated.seat_each.Given as goal

abbrev pub invariant-loop-local : goal.invariant-loop-local
invariant-loop-local g l = record {
  room : l.thread + vec_len l.locals ≤ vec_capacity l.workers;
  counted : vec_len l.workers ≡ l.thread;
  few : l.thread + vec_len l.locals ≡ length l.initial.locals.items;
  table : l.main.table_id ≡ l.initial.main.table_id;
  main : IsMain l.parts.key (lead_of l.parts.key (numbers l.thread)) l.main.me;
  ready : All (IsWorkerReady (Fit l.parts.table.shared.table_id l.parts.key)) l.workers.items;
  fresh : All (λ w. IsFresh w.hand.seat.me) l.workers.items;
  so_far : map (λ w. w.hand.local) l.workers.items ++ reverse l.locals.items ≡ (g.M.Machine.rules l.parts.key.machine).locals;
  threads : map (λ w. w.hand.thread.0) l.workers.items ≡ numbers l.thread;
}

abbrev pub decreases-loop-local : goal.decreases-loop-local
decreases-loop-local g l = vec_len l.locals
