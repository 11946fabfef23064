use Rattle.std.proofs.Common.{ap}
use Rattle.tcreplay.specs.declared.outcome.Outcome.{Outcome}
use Rattle.tcreplay.specs.Seen.{seen_workload}
use Rattle.tcreplay.proofs.GenerateFacts.{generated_ended, generated_ran}
use Rattle.cpu_front.proofs.Taken.{all_taken}
use Rattle.tc_machine.specs.Inputs.{asked_of}
use Rattle.tcreplay.proofs.generate.generate.Goals as goal

pub returns-in-Err-clause-generated : goal.returns-in-Err-clause-generated
returns-in-Err-clause-generated g c source =
    generated_ended (seen_workload c.args.workload) source _ _ _ _ c.in-Err.end c.without_run.result.end c.without_run.result.order (ap (λ (o : Outcome). o.end) c.without_run.ensures) (ap (λ (o : Outcome). o.order) c.without_run.ensures) c.in-Err.ensures.made

pub returns-in-Ok-run_over-clause-generated : goal.returns-in-Ok-run_over-clause-generated
returns-in-Ok-run_over-clause-generated g c source =
    generated_ran (seen_workload c.args.workload) source _ _ _ _ _ _ c.in-Ok.made c.deref.result.now c.in-Ok-run_over.ran c.write.result.end c.write.result.order c.deref.ensures.value c.in-Ok.ensures.made c.in-Ok-run_over.ensures c.write.ensures.end c.write.ensures.order c.write.ensures.written

pub run_over-requires-clause-taken : goal.run_over-requires-clause-taken
run_over-requires-clause-taken g c = all_taken (asked_of c.in-Ok.made.job.trace).calls
