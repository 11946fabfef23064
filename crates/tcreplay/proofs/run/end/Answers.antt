use Rattle.std.proofs.Common.{arith}
use Rattle.tcreplay.proofs.RunFacts.{told_done}
use Rattle.tcreplay.proofs.JournalFacts.{told_legal}
use Rattle.tcreplay.proofs.run.end.Goals as goal

pub returns : goal.returns
returns g c = grind (arith, told_done, told_legal)
