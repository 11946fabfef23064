use Rattle.std.proofs.Common.{subst, arith}
use Rattle.tcreplay.specs.Machines.{machine_of, locks_for}
use Rattle.tcreplay.specs.Ran.{IsRanByThreads}
use Rattle.tcreplay.specs.Seen.{seen_front, seen_replay}
use Rattle.tcreplay.specs.Reads.{seen_job}
use Rattle.tcreplay.specs.Verdict.{order_by}
use Rattle.tcreplay.proofs.RanFacts.{run_end}
use Rattle.tcreplay.proofs.SampleFacts.{has_step}
use Rattle.tcreplay.proofs.TriedFacts.{tried_threads, tried_at}
use Rattle.tcreplay.proofs.replay.try_threads.Goals as goal

pub write-requires : goal.write-requires
write-requires g c = let by = c.in-Ok-run_by_threads.ensures in run_end (machine_of (seen_front c.args.replay.front)) c.telling-telling.result (seen_job c.in-Ok.job).input (order_by (machine_of (seen_front c.args.replay.front)).rules (record { input = (seen_job c.in-Ok.job).input; picks = by.came })) c.in-Ok-run_by_threads.ran by.whole

pub returns-clause-tried : goal.returns-clause-tried
returns-clause-tried g c = tried_threads (seen_replay c.args.replay) c.args.locks _ _ _ _ _ _ c.in-Ok.job c.in-Ok-run_by_threads.ran c.write.result.end c.write.result.order c.requires.threads c.in-Ok.ensures.read (subst (λ t. IsRanByThreads (machine_of (seen_front c.args.replay.front)) (locks_for (seen_front c.args.replay.front) c.args.locks) t (seen_job c.in-Ok.job).input c.in-Ok-run_by_threads.ran) c.telling-telling.ensures c.in-Ok-run_by_threads.ensures) c.write.ensures.end c.write.ensures.order c.write.ensures.written

pub returns-in-Err-clause-tried : goal.returns-in-Err-clause-tried
returns-in-Err-clause-tried g c = grind (arith, tried_at)

pub run_by_threads-requires-clause-step : goal.run_by_threads-requires-clause-step
run_by_threads-requires-clause-step g c κs within = has_step c.telling-telling.result c.args.replay.rows c.args.replay.sample c.telling-telling.ensures c.requires.sample
