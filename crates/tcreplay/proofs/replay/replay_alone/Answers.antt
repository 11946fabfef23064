use Rattle.std.proofs.Common.{arith}
use Rattle.tcreplay.proofs.CompleteFacts.{complete_is}
use Rattle.tcreplay.proofs.replay.replay_alone.Goals as goal

pub returns-clause-complete : goal.returns-clause-complete
returns-clause-complete g c = grind (arith, complete_is)
