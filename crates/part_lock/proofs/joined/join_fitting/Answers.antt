use Rattle.std.proofs.Common.{length, refl, ap, ◌∙◌, arith}
use Rattle.std.proofs.lemmas.List.{length-reverse, reverse-reverse, append-nil, nil_from_length}
use Rattle.std.proofs.lemmas.List.Elements.{All-pop}
use Rattle.part_lock.specs.Lock.{one_joined}
use Rattle.part_lock.specs.Joins.{Fit}
use Rattle.part_lock.proofs.Carried.{turned_end, all_turned, next_is, all_last}
use Rattle.part_lock.proofs.Hands.{joins_none, joins_more}
use Rattle.part_lock.proofs.joined.join_fitting.Goals as goal

pub loop-worker-init : goal.loop-worker-init
loop-worker-init g c = record {
  room = let turned = ap length c.turned-workers.ensures ∙ length-reverse c.args.workers.items in
      omega (arith, c.requires.room, c.args.locals.ok.0, c.args.workers.ok.0, c.turned-workers.result.ok.0, ap length c.requires.bare, turned);
  table = refl;
  main = c.requires.main;
  fits = rw c.turned-workers.ensures (all_turned (λ w. Fit c.args.parts.now.table.shared.table_id c.args.parts.now.key w.hand) c.args.workers.items c.requires.fits);
  so_far = rw c.requires.bare refl;
  joins = λ me j. j;
}

pub join_one-requires-clause-fits : goal.join_one-requires-clause-fits
join_one-requires-clause-fits g c κs within = all_last (λ w. Fit c.args.parts.now.table.shared.table_id c.args.parts.now.key w.hand) _ _ (rw c.in-Some.ensures.items at c.loop-worker.invariant.fits)

pub loop-worker-preserved : goal.loop-worker-preserved
loop-worker-preserved g c =
    let v = c.loop-worker.invariant in let w = c.in-Some.worker in
    let key = c.args.parts.now.key in
    let front = (All-pop (λ w. Fit c.args.parts.now.table.shared.table_id key w.hand) c.loop-worker.workers.items c.pop.new.self.items c.pop.result c.pop.ensures.items v.fits).0 in
    let fit = all_last (λ w. Fit c.args.parts.now.table.shared.table_id key w.hand) c.pop.new.self.items w (rw c.in-Some.ensures.items at v.fits) in
    let turn = turned_end c.loop-worker.workers.items c.pop.new.self.items w c.in-Some.ensures.items in
    record {
      room = omega (arith, v.room, c.in-Some.ensures.len, c.push_reserved.ensures.len, c.push_reserved.ensures.capacity);
      table = c.join_one.ensures.seat ∙ v.table;
      main = (one_joined v.main.0 fit.1.0, c.join_one.ensures.main v.main.0 fit.1.0 v.main.1 fit.1.1);
      fits = front;
      so_far = next_is (λ w. w.hand.local) _ _ w _ c.loop-worker.workers.items c.pop.new.self.items _ c.push_reserved.ensures.items c.join_one.ensures.local turn v.so_far;
      joins = λ me j. v.joins me (rw turn (joins_more key _ _ me w.hand _ fit.1 c.join_one.ensures.main j));
    }

pub returns-clause-main : goal.returns-clause-main
returns-clause-main g c = grind (arith, nil_from_length, reverse-reverse, joins_none)

pub returns-clause-locals : goal.returns-clause-locals
returns-clause-locals g c = grind (arith, nil_from_length, reverse-reverse, append-nil)
