use Rattle.tcreplay.specs.Seen.{seen_audit}
use Rattle.tcreplay.proofs.AuditFacts.{case_table, case_trace, case_journal, case_ok}
use Rattle.tcreplay.proofs.input.read_audit.Goals as goal

pub returns-in_err-table-clause-read : goal.returns-in_err-table-clause-read
returns-in_err-table-clause-read g c = case_table (seen_audit c.args.audit) _ _ _ c.in_err-table.field-0.0 _ c.from_residual.ensures.1 c.in_err-table.ensures

pub returns-in_err-trace-clause-read : goal.returns-in_err-trace-clause-read
returns-in_err-trace-clause-read g c = case_trace (seen_audit c.args.audit) _ _ _ _ c.in_ok-table.table c.in_err-trace.field-0.0 _ c.from_residual-in_err-trace.ensures.1 c.in_ok-table.ensures c.in_err-trace.ensures.asked

pub returns-in_err-journal-clause-read : goal.returns-in_err-journal-clause-read
returns-in_err-journal-clause-read g c = case_journal (seen_audit c.args.audit) _ _ _ _ _ c.in_ok-table.table c.in_ok-trace.trace c.in_err-journal.field-0.0 _ c.from_residual-in_err-journal.ensures.1 c.in_ok-table.ensures c.in_ok-trace.ensures.asked c.in_err-journal.ensures

pub returns-clause-read : goal.returns-clause-read
returns-clause-read g c = case_ok (seen_audit c.args.audit) _ _ _ _ _ c.in_ok-table.table c.in_ok-trace.trace c.in_ok-journal.journal c.in_ok-table.ensures c.in_ok-trace.ensures.asked c.in_ok-journal.ensures
