use Rattle.tcreplay.proofs.RunFacts.{some_whole}
use Rattle.tcreplay.proofs.run.run_along.Goals as goal

pub stop-requires : goal.stop-requires
stop-requires g c = record { stopped = some_whole _ _ _ _ _ (rw (← c.told_along.ensures.options, ← c.told_along.ensures.input) at c.in-Err.ensures.full) }
