use Rattle.std.proofs.Common.{arith}
use Rattle.replay_workers.proofs.Steps.{below_join, waited_none, waited_round}
use Rattle.replay_workers.proofs.together.run_together.Goals as goal

pub loop-preserved-then-give_round : goal.loop-preserved-then-give_round
loop-preserved-then-give_round g c =
    let b = c.args.board.now in let each = c.give_round.ensures.each in
    let ran = below_join _ _ (g.B.Board.fits b) _ c.args.workers.now c.loop.workers _ c.loop.invariant.ran (λ i d h. each i d (omega (arith, c.loop.auto.workers))) in
    record { ran = ran; waited = λ i d h on. waited_none _ (g.B.Board.thread_of b) _ _ (ran i d h).0 }

pub loop-preserved : goal.loop-preserved
loop-preserved g c =
    let b = c.args.board.now in let each = c.give_round.ensures.each in let v = c.loop.invariant in let still = c.give_round.ensures.still c.if-give_round.false in
    record {
      ran = below_join _ _ (g.B.Board.fits b) _ _ c.loop.workers _ v.ran (λ i d h. each i d (omega (arith, c.loop.auto.workers)));
      waited = λ i d h on. waited_round _ (g.B.Board.thread_of b) c.loop.idle _ _ _ (v.waited i d h) (still i d (omega (arith, c.loop.auto.workers))) on;
    }
