use Rattle.std.proofs.Common.{arith}
use Rattle.tcreplay.proofs.CompleteFacts.{usage_by, complete_is}
use Rattle.tcreplay.proofs.replay.tcreplay.Goals as goal

pub returns-clause-complete : goal.returns-clause-complete
returns-clause-complete g c = grind (arith, complete_is)

pub returns-clause-usage : goal.returns-clause-usage
returns-clause-usage g c = grind (arith, usage_by)
