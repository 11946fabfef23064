use Rattle.std.proofs.Common.{arith}
use Rattle.call_steps.proofs.HandFacts.{served}
use Rattle.call_steps.proofs.local.Local.serve.Goals as goal

pub returns : goal.returns
returns g c = grind (arith, served)
