use Rattle.std.proofs.Common.{◌≡◌, sym, subst}
use Rattle.std.specs.Prelude.{IfOk}
use Rattle.alloc_rules.specs.Inputs.{not_taken}
use Rattle.tc_machine.specs.Inputs.{asked_of}
use Rattle.tcreplay.specs.declared.machines.Front.{Front}
use Rattle.tcreplay.specs.declared.task.Locks.{Locks}
use Rattle.tcreplay.specs.Machines.{per_cpu, machine_of, locks_for}
use Rattle.tcreplay.specs.Reads.{seen_job}
use Rattle.tcreplay.specs.Ran.{IsRanByThreads}
use Rattle.tcreplay.specs.Seen.{seen_front}
use Rattle.tcreplay.proofs.machines.Front.run_by_threads.Goals as goal

pub run_by_part_locks-requires-clause-taken : goal.run_by_part_locks-requires-clause-taken
run_by_part_locks-requires-clause-taken g c κs within = subst (λ (f : Front). not_taken (machine_of (seen_front f)).takes (asked_of c.args.job.trace).calls ≡ 0) c.in-Cpus.is c.requires.taken

pub returns-in-Parts : goal.returns-in-Parts
returns-in-Parts g c =
    subst (λ (f : Front). IfOk c.run_by_part_locks.result (IsRanByThreads (machine_of (seen_front f)) (locks_for (seen_front f) c.args.locks) c.args.telling (seen_job c.args.job).input)) (sym c.in-Cpus.is)
    (subst (λ (k : Locks). IfOk c.run_by_part_locks.result (IsRanByThreads per_cpu k c.args.telling (seen_job c.args.job).input)) (sym c.in-Parts.is) c.run_by_part_locks.ensures)

pub returns-in-Threads : goal.returns-in-Threads
returns-in-Threads g c =
    subst (λ (f : Front). IfOk c.run_by_part_locks-in-Threads.result (IsRanByThreads (machine_of (seen_front f)) (locks_for (seen_front f) c.args.locks) c.args.telling (seen_job c.args.job).input)) (sym c.in-Threads.is) c.run_by_part_locks-in-Threads.ensures
