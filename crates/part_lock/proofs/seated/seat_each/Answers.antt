use Rattle.std.proofs.Common.{map, reverse, sym, ap, ◌∙◌, arith, add-one}
use Rattle.std.proofs.lemmas.List.{length-reverse, reverse-reverse, append-nil, length-map, nil_from_length}
use Rattle.std.proofs.lemmas.List.Elements.{All-nil, All-push}
use Rattle.replay_workers.specs.Runs.{IsReady as IsWorkerReady}
use Rattle.part_lock.specs.Joins.{Fit, lead_of, numbers}
use Rattle.part_lock.specs.Turns.{IsFresh}
use Rattle.part_lock.proofs.Carried.{turned_end, move_step}
use Rattle.part_lock.proofs.Numbers.{number_new, numbers_more, at_seam}
use Rattle.part_lock.proofs.seated.seat_each.Goals as goal

pub loop-local-init : goal.loop-local-init
loop-local-init g c = grind (arith, length-reverse, All-nil, reverse-reverse)

pub overflow_cast-thread : goal.overflow_cast-thread
overflow_cast-thread g c = grind (arith, length-reverse)

pub worker_for-requires-clause-seat : goal.worker_for-requires-clause-seat
worker_for-requires-clause-seat g c κs within = c.loop-local.invariant.table ∙ c.requires.seat

pub worker_for-requires-clause-main : goal.worker_for-requires-clause-main
worker_for-requires-clause-main g c κs within = (lead_of c.args.parts.now.key (numbers c.loop-local.thread), c.loop-local.invariant.main, number_new c.loop-local.thread)

pub worker_for-requires-clause-start : goal.worker_for-requires-clause-start
worker_for-requires-clause-start g c κs within =
    let v = c.loop-local.invariant in
    let turn = turned_end c.loop-local.locals.items c.pop.new.self.items c.in-Some.local c.in-Some.ensures.items in
    let long = length-map c.loop-local.workers.items (λ w. w.hand.local) ∙ (sym c.loop-local.workers.ok.0 ∙ v.counted) in
    rw (← v.so_far, turn) (at_seam (map (λ w. w.hand.local) c.loop-local.workers.items) (reverse c.pop.new.self.items) c.in-Some.local c.loop-local.thread long)

pub push_reserved-requires : goal.push_reserved-requires
push_reserved-requires g c = omega (arith, c.loop-local.invariant.room, c.loop-local.invariant.counted, c.in-Some.ensures.len)

pub loop-local-preserved : goal.loop-local-preserved
loop-local-preserved g c =
    let v = c.loop-local.invariant in
    let turn = turned_end c.loop-local.locals.items c.pop.new.self.items c.in-Some.local c.in-Some.ensures.items in record {
      room = omega (arith, v.room, c.in-Some.ensures.len, c.push_reserved.ensures.capacity);
      counted = omega (arith, v.counted, c.push_reserved.ensures.len);
      few = omega (arith, v.few, c.in-Some.ensures.len);
      table = c.worker_for.ensures.seat ∙ v.table;
      main = rw add-one (c.worker_for.ensures.main (lead_of c.args.parts.now.key (numbers c.loop-local.thread)) v.main);
      ready = rw c.push_reserved.ensures.items (All-push (IsWorkerReady (Fit c.args.parts.now.table.shared.table_id c.args.parts.now.key)) _ _ v.ready c.worker_for.ensures.ready);
      fresh = rw c.push_reserved.ensures.items (All-push (λ w. IsFresh w.hand.seat.me) _ _ v.fresh c.worker_for.ensures.fresh);
      so_far = move_step (λ w. w.hand.local) _ _ _ _ c.loop-local.locals.items c.pop.new.self.items _ c.push_reserved.ensures.items c.worker_for.ensures.hand.0 turn v.so_far;
      threads = numbers_more (λ w. w.hand.thread.0) _ _ _ c.loop-local.thread c.push_reserved.ensures.items (ap (λ t. t.0) c.worker_for.ensures.hand.1) v.threads;
    }

pub returns-clause-seat : goal.returns-clause-seat
returns-clause-seat g c = c.loop-local.invariant.table

pub returns-clause-main : goal.returns-clause-main
returns-clause-main g c = grind (arith, length-reverse)

pub returns-clause-ready : goal.returns-clause-ready
returns-clause-ready g c = c.loop-local.invariant.ready

pub returns-clause-locals : goal.returns-clause-locals
returns-clause-locals g c = grind (arith, nil_from_length, append-nil)

pub returns-clause-threads : goal.returns-clause-threads
returns-clause-threads g c = grind (arith, length-reverse)
