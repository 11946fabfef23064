use Rattle.std.proofs.Common.{sym}
use Rattle.tcreplay.specs.Seen.{seen_replay}
use Rattle.tcreplay.proofs.JobFacts.{job_table, job_trace, job_picks, job_ok}
use Rattle.tcreplay.proofs.input.read_job.Goals as goal

pub returns-in_err-table-clause-read : goal.returns-in_err-table-clause-read
returns-in_err-table-clause-read g c = job_table (seen_replay c.args.replay) _ _ _ c.in_err-table.field-0.0 _ c.from_residual.ensures.1 c.in_err-table.ensures

pub returns-in_err-trace-clause-read : goal.returns-in_err-trace-clause-read
returns-in_err-trace-clause-read g c = job_trace (seen_replay c.args.replay) _ _ _ _ c.in_ok-table.table c.in_err-trace.field-0.0 _ c.from_residual-in_err-trace.ensures.1 c.in_ok-table.ensures c.in_err-trace.ensures.asked

pub returns-in_err-picks-clause-read : goal.returns-in_err-picks-clause-read
returns-in_err-picks-clause-read g c = job_picks (seen_replay c.args.replay) _ _ _ _ _ _ c.in_ok-table.table c.in_ok-trace.trace c.in_err-picks.field-0.0 _ (sym c.file.ensures) c.from_residual-in_err-picks.ensures.1 c.in_ok-table.ensures c.in_ok-trace.ensures.asked c.in_err-picks.ensures.picks

pub returns-clause-read : goal.returns-clause-read
returns-clause-read g c = job_ok (seen_replay c.args.replay) _ _ _ _ _ _ c.in_ok-table.table c.in_ok-trace.trace c.in_ok-picks.picks _ (sym c.file.ensures) c.in_ok-table.ensures c.in_ok-trace.ensures.asked c.in_ok-picks.ensures.picks
