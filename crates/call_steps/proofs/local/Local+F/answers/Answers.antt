use Rattle.std.proofs.Common.{arith}
use Rattle.call_steps.proofs.ScriptFacts.{acts_told, answers_told}
use Rattle.call_steps.proofs.local.Local+F.answers.Goals as goal

pub returns-clause-acts : goal.returns-clause-acts
returns-clause-acts g c = grind (arith, acts_told)

pub returns-clause-answers : goal.returns-clause-answers
returns-clause-answers g c = grind (arith, answers_told)
