use Rattle.std.proofs.Common.{subst, ◌∙◌, arith}
use Rattle.replay_workers.specs.Runs.{Done}
use Rattle.replay_workers.proofs.Overs.{over_all}
use Rattle.replay_workers.proofs.Steps.{below_join}
use Rattle.replay_workers.proofs.run.run_workers.Goals as goal

pub loop-preserved : goal.loop-preserved
loop-preserved g c =
    let v = c.loop.invariant in let r = c.run_here-workers.ensures in record {
      long = r.long ∙ v.long;
      ran = below_join _ _ (g.B.Board.fits c.args.board.now) _ _ c.loop.workers.items _ v.ran (λ i d h. let e = r.each i d (omega (arith, v.long)) in (e.0, e.1));
    }

pub returns-then-is_done-clause-done : goal.returns-then-is_done-clause-done
returns-then-is_done-clause-done g c = subst Done c.as_slice.ensures.value (c.is_done.ensures.0 c.if-is_done.true)

pub returns-then-is_done-clause-over : goal.returns-then-is_done-clause-over
returns-then-is_done-clause-over g c = over_all _ (returns-then-is_done-clause-done g c)
