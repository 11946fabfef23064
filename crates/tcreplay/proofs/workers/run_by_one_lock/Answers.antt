use Rattle.std.proofs.Common.{sym, subst, ◌∙◌}
use Rattle.std.specs.Prelude.{IfOk}
use Rattle.std.proofs.Common.{arith}
use Rattle.tc_model.specs.Input.{Input}
use Rattle.tcreplay.specs.declared.task.Locks.{Locks}
use Rattle.tcreplay.specs.declared.task.Locks.TheVariants.{One}
use Rattle.cpu_rows.specs.Machine.{rules}
use Rattle.cpu_front.proofs.Taken.{all_taken}
use Rattle.tc_machine.specs.Inputs.{asked_of}
use Rattle.tcreplay.specs.Machines.{per_cpu}
use Rattle.tcreplay.specs.Came.{IsLeft}
use Rattle.tcreplay.specs.Ran.{IsRanByThreads}
use Rattle.tcreplay.proofs.workers.run_by_one_lock.Goals as goal

pub open-requires-clause-taken : goal.open-requires-clause-taken
open-requires-clause-taken g c = all_taken (asked_of c.args.job.trace).calls

pub complete-requires-clause-left : goal.complete-requires-clause-left
complete-requires-clause-left g c =
    let came = c.in_ok-came.came in
    let left = c.in_ok-came.ensures.left in
    subst (λ (k : Locks). IsLeft rules came.state.input k came.state came.locks came.lasts.items came.halt) (sym left.locks_are)
    (subst (λ (i : Input). IsLeft rules i One came.state came.locks came.lasts.items came.halt) (sym left.input_is) left)

pub complete-requires-clause-valid : goal.complete-requires-clause-valid
complete-requires-clause-valid g c = grind (arith)

pub returns : goal.returns
returns g c =
    let left = c.in_ok-came.ensures.left in
    subst (λ (i : Input). IfOk c.complete.result (IsRanByThreads per_cpu One c.args.telling i)) (left.input_is ∙ c.in_ok-state.ensures.input)
    (subst (λ (k : Locks). IfOk c.complete.result (IsRanByThreads per_cpu k c.args.telling c.in_ok-came.came.state.input)) left.locks_are c.complete.ensures)
