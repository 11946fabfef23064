use Rattle.replay_workers.proofs.Steps.{ran_join, waited_none, waited_round}
use Rattle.replay_workers.proofs.turns.run_alone.Goals as goal

pub loop-preserved-then-run_on : goal.loop-preserved-then-run_on
loop-preserved-then-run_on g c =
    let e = c.run_on.ensures in let ran = ran_join (g.B.Board.turns c.args.board.now) (g.B.Board.thread_of c.args.board.now) _ _ _ c.loop.invariant.ran e.ran in
    record { ran = ran; kept = e.kept; waited = λ on. waited_none _ _ _ _ ran }

pub loop-preserved : goal.loop-preserved
loop-preserved g c =
    let e = c.run_on.ensures in let v = c.loop.invariant in let thread_of = g.B.Board.thread_of c.args.board.now in
    record { ran = ran_join _ thread_of _ _ _ v.ran e.ran; kept = e.kept; waited = waited_round _ thread_of c.loop.idle _ _ _ v.waited (e.still c.if-run_on.false) }
