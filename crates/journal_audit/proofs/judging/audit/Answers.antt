use Rattle.journal_audit.specs.Rules.{plan_of, journal_of}
use Rattle.journal_audit.proofs.Law.{yes_on_legal}
use Rattle.journal_audit.proofs.judging.audit.Goals as goal

pub returns-clause-legal : goal.returns-clause-legal
returns-clause-legal c = yes_on_legal (plan_of c.args.config.now.huge c.args.rows.now c.args.scripts.now) (journal_of c.args.bytes.now) c.judge_lines.result c.judge_lines.ensures
