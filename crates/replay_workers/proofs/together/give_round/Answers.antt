use Rattle.std.proofs.Common.{◌≡◌, ◌||◌, Bool, true, false, refl, rules, arith}
use Rattle.replay_workers.specs.Runs.{Ran, Stands, IsStill}
use Rattle.replay_workers.proofs.Places.{each_set}
use Rattle.replay_workers.proofs.together.give_round.Goals as goal

no_either : (a b : Bool) → (a || b) ≡ false → (a ≡ false) × (b ≡ false)
no_either false b is = (refl, is)
no_either true b is = absurd (cc)

pub loop-i-preserved : goal.loop-i-preserved
loop-i-preserved g c =
    let v = c.loop-i.invariant in let ran = c.run_on-moved.ensures in
    let turns = g.B.Board.turns c.args.board.now in let thread_of = g.B.Board.thread_of c.args.board.now in let fits = g.B.Board.fits c.args.board.now in
    let w = c.run_on-moved.new.worker in record {
      long = search rules;
      ran = each_set (λ a b. Ran turns thread_of a b × Stands fits b) c.args.workers.now c.loop-i.workers c.loop-i.i c.index-workers-i.result w (omega arith) (λ d. v.same c.loop-i.i d (omega arith)) (ran.ran, ran.kept) v.ran;
      same = search rules;
      still = λ no. let each = no_either c.loop-i.moved c.run_on-moved.result no in
          each_set (IsStill turns) c.args.workers.now c.loop-i.workers c.loop-i.i c.index-workers-i.result w (omega arith) (λ d. v.same c.loop-i.i d (omega arith)) (ran.still each.1) (v.still each.0);
    }
