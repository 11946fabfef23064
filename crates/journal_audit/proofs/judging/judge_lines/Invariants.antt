use Rattle.std.proofs.Common.{length}
use Rattle.journal_audit.specs.Rules.{plan_of}
use Rattle.journal_audit.proofs.Auditing.{IsAuditing}
use Rattle.journal_audit.proofs.judging.judge_lines.Given as goal

abbrev pub invariant-loop-form : goal.invariant-loop-form
invariant-loop-form l = IsAuditing (plan_of l.huge l.rows l.scripts) l.books l.lines l.bytes

abbrev pub decreases-loop-form : goal.decreases-loop-form
decreases-loop-form l = length l.lines.lines
