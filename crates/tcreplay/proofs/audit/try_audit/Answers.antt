use Rattle.std.proofs.Common.{ap, arith}
use Rattle.tcreplay.specs.declared.outcome.Outcome.{Outcome}
use Rattle.tcreplay.specs.Seen.{seen_audit}
use Rattle.tcreplay.proofs.AuditFacts.{audited_judged}
use Rattle.tcreplay.proofs.audit.try_audit.Goals as goal

pub returns-in-Err-clause-audited : goal.returns-in-Err-clause-audited
returns-in-Err-clause-audited g c = grind (arith)

pub returns-in-Ok-judge-clause-audited : goal.returns-in-Ok-judge-clause-audited
returns-in-Ok-judge-clause-audited g c =
    let same = c.without_run-in-Ok-judge.ensures in
    audited_judged (seen_audit c.args.audit) _ _ _ _ _ _ c.in-Ok.job c.in-Ok-judge.verdict c.in-Ok.ensures.read c.in-Ok-judge.ensures.verdict c.in-Ok-judge.ensures.right c.write.result c.without_run-in-Ok-judge.result.end c.without_run-in-Ok-judge.result.order (ap (λ (o : Outcome). o.end) same) (ap (λ (o : Outcome). o.order) same) c.write.ensures.end c.write.ensures.written
