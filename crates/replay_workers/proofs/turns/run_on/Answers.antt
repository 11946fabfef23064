use Rattle.replay_workers.proofs.Steps.{ran_join}
use Rattle.replay_workers.proofs.turns.run_on.Goals as goal

pub returns-then-ne-clause-ran : goal.returns-then-ne-clause-ran
returns-then-ne-clause-ran g c = ran_join _ _ _ _ _ c.loop.invariant.ran c.turn_once.ensures.ran

pub loop-preserved : goal.loop-preserved
loop-preserved g c = record { ran = ran_join _ _ _ _ _ c.loop.invariant.ran c.turn_once.ensures.ran; kept = c.turn_once.ensures.kept; first = λ e. absurd (cc) }
