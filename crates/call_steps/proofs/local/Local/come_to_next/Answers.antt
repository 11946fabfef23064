use Rattle.std.proofs.Common.{arith}
use Rattle.call_steps.proofs.ScriptFacts.{first_left, left_behind}
use Rattle.call_steps.proofs.local.Local.come_to_next.Goals as goal

pub returns : goal.returns
returns g c = grind (arith, first_left, left_behind)
