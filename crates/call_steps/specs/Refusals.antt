-- Which answers refuse a call, and which steps may give them.
use Rattle.std.specs.Prelude.{Bool, true, false}
use Rattle.tc_model.specs.declared.answers.Answer.{Answer}
use Rattle.tc_model.specs.declared.answers.Answer.TheVariants.{NoBlock, Busy, OverLimit, OverStatic}
use Rattle.call_steps.specs.declared.step.Step.{Step}
use Rattle.call_steps.specs.declared.step.Step.TheVariants as does
use Rattle.call_steps.specs.Rows.{step_rule}

-- whether an answer refuses its call
abbrev pub is_refusal : Answer → Bool
is_refusal NoBlock = true
is_refusal (Busy owner) = true
is_refusal (OverLimit sum) = true
is_refusal (OverStatic most) = true
is_refusal answer = false

-- which steps may refuse their call, and how, by the refusals of the front-end's rows
abbrev pub may_refuse : {R : Type 0} → (R → Answer → Bool) → Step R → Answer → Bool
may_refuse refuses (does.Front row) answer = refuses row answer
may_refuse refuses step NoBlock = (step_rule step).refuses
may_refuse refuses step answer = false
