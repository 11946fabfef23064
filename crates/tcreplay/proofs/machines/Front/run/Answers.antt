use Rattle.std.proofs.Common.{◌≡◌, sym, subst}
use Rattle.std.specs.Prelude.{IfOk}
use Rattle.alloc_rules.specs.Inputs.{not_taken}
use Rattle.tc_machine.specs.Inputs.{asked_of}
use Rattle.tcreplay.specs.declared.machines.Front.{Front}
use Rattle.tcreplay.specs.Machines.{machine_of}
use Rattle.tcreplay.specs.Verdict.{order_by}
use Rattle.tcreplay.specs.Reads.{seen_job}
use Rattle.tcreplay.specs.Ran.{IsRan}
use Rattle.tcreplay.specs.Seen.{seen_front}
use Rattle.tcreplay.proofs.machines.Front.run.Goals as goal

pub returns-in-Cpus : goal.returns-in-Cpus
returns-in-Cpus c = subst (λ (f : Front). IfOk c.run_over.result (IsRan (machine_of (seen_front f)) c.args.telling (seen_job c.args.job).input (order_by (machine_of (seen_front f)).rules (seen_job c.args.job)))) (sym c.in-Cpus.is) c.run_over.ensures

pub returns-in-Threads : goal.returns-in-Threads
returns-in-Threads c = subst (λ (f : Front). IfOk c.run_over-in-Threads.result (IsRan (machine_of (seen_front f)) c.args.telling (seen_job c.args.job).input (order_by (machine_of (seen_front f)).rules (seen_job c.args.job)))) (sym c.in-Threads.is) c.run_over-in-Threads.ensures

pub returns-in-Nodes : goal.returns-in-Nodes
returns-in-Nodes c = subst (λ (f : Front). IfOk c.run.result (IsRan (machine_of (seen_front f)) c.args.telling (seen_job c.args.job).input (order_by (machine_of (seen_front f)).rules (seen_job c.args.job)))) (sym c.in-Nodes.is) c.run.ensures

pub run_over-requires-clause-taken : goal.run_over-requires-clause-taken
run_over-requires-clause-taken c = subst (λ (f : Front). not_taken (machine_of (seen_front f)).takes (asked_of c.args.job.trace).calls ≡ 0) c.in-Cpus.is c.requires.taken
