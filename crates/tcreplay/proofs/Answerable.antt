-- Each answer that a set of blocks allows is of a kind that its call can get.
use Rattle.std.proofs.Common.{◌≡◌, ℕ, true, List, arith}
use Rattle.tc_model.specs.declared.calls.Call.{Call}
use Rattle.tc_model.specs.declared.answers.Answer.{Answer}
use Rattle.tc_model.specs.declared.answers.CallLine.{CallLine}
use Rattle.tc_model.specs.Blocks.{IsAllowed}
use Rattle.usage_report.specs.Report.{can_answer}

can : (huge : ℕ) (length_of : ℕ → ℕ) (earlier : List CallLine) (call : Call) (answer : Answer) → IsAllowed huge length_of earlier call answer → can_answer call answer ≡ true
can huge length_of earlier call answer allowed = grind (arith)
