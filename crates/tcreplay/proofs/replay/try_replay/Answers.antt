use Rattle.std.proofs.Common.{subst, arith}
use Rattle.tcreplay.specs.Verdict.{order_by}
use Rattle.tcreplay.specs.Reads.{seen_job}
use Rattle.tcreplay.specs.Machines.{machine_of}
use Rattle.tcreplay.specs.Ran.{IsRan}
use Rattle.tcreplay.specs.Seen.{seen_front, seen_replay}
use Rattle.tcreplay.proofs.RanFacts.{run_end}
use Rattle.tcreplay.proofs.SampleFacts.{has_step}
use Rattle.tcreplay.proofs.TriedFacts.{tried_ran, tried_at}
use Rattle.tcreplay.proofs.replay.try_replay.Goals as goal

pub returns-in-Ok-run-clause-tried : goal.returns-in-Ok-run-clause-tried
returns-in-Ok-run-clause-tried g c = tried_ran (seen_replay c.args.replay) _ _ _ _ _ _ c.in-Ok.job c.in-Ok-run.ran c.write.result.end c.write.result.order c.requires.alone c.in-Ok.ensures.read (subst (λ t. IsRan (machine_of (seen_front c.args.replay.front)) t (seen_job c.in-Ok.job).input (order_by (machine_of (seen_front c.args.replay.front)).rules (seen_job c.in-Ok.job)) c.in-Ok-run.ran) c.telling.ensures c.in-Ok-run.ensures) c.write.ensures.end c.write.ensures.order c.write.ensures.written

pub returns-in-Err-clause-tried : goal.returns-in-Err-clause-tried
returns-in-Err-clause-tried g c = grind (arith, tried_at)

pub write-requires : goal.write-requires
write-requires g c = run_end (machine_of (seen_front c.args.replay.front)) c.telling.result (seen_job c.in-Ok.job).input (order_by (machine_of (seen_front c.args.replay.front)).rules (seen_job c.in-Ok.job)) c.in-Ok-run.ran c.in-Ok-run.ensures

pub run-requires-clause-step : goal.run-requires-clause-step
run-requires-clause-step g c = has_step c.telling.result c.args.replay.rows c.args.replay.sample c.telling.ensures c.requires.sample
