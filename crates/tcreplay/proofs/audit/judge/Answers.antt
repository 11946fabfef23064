use Rattle.tcreplay.proofs.AuditFacts.{right_of}
use Rattle.tcreplay.proofs.audit.judge.Goals as goal

pub returns-clause-right : goal.returns-clause-right
returns-clause-right c =
    right_of c.args.job.now c.rows-rows.result.now c.as_slice-scripts.result.now c.deref.result.now c.audit.result c.rows-rows.ensures.value c.as_slice-scripts.ensures c.deref.ensures.value c.requires c.audit.ensures.verdict c.audit.ensures.legal
