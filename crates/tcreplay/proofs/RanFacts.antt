-- What holds of a run from what it came to, and of its end and its order.
use Rattle.std.proofs.Common.{◌≡◌, ℕ, Bool, true, false, List, sym, ap, subst, ◌∙◌, inl, inr, arith}
use Rattle.tc_units.specs.Classes.{length_of}
use Rattle.tc_model.specs.Blocks.{IsBlockRun}
use Rattle.tc_model.specs.Input.{Input}
use Rattle.tc_model.specs.Run.{run}
use Rattle.tc_model.specs.Replays.{HaveEnded}
use Rattle.alloc_rules.specs.Told.{TellsScripts}
use Rattle.tcreplay.specs.Machines.{Machine, machine_of}
use Rattle.tcreplay.specs.declared.outcome.End.{End}
use Rattle.tcreplay.specs.declared.outcome.End.TheVariants.{Done, WriteFault}
use Rattle.tcreplay.specs.declared.run.Ran.{Ran}
use Rattle.tcreplay.specs.declared.run.Telling.{Telling}
use Rattle.tcreplay.specs.declared.task.Locks.{Locks}
use Rattle.tcreplay.specs.Tasks.{Front, Schedule}
use Rattle.tcreplay.specs.Verdict.{Job, Verdict, told_by, have_ended, order_by}
use Rattle.tcreplay.specs.Ran.{IsRan, IsRanByThreads, IsJournal}
use Rattle.tcreplay.specs.Reads.{IsMadeOf}
use Rattle.tcreplay.specs.Writes.{IsRunEnd, IsLastEnd}
use Rattle.tcreplay.specs.Order.{IsCompleted, IsFilled, IsOrderOf}
use Rattle.tcreplay.proofs.Ended.{ended_from}
use Rattle.tcreplay.proofs.RunFacts.{verdict_if, its_order, its_end, completed_is}

-- an end that is `Done` was the run's
done_before : (ran end : End) → IsLastEnd ran end → end ≡ Done → ran ≡ Done
done_before ran end (inl same) done = sym same ∙ done
done_before ran end (inr failed) done = let e : WriteFault ≡ Done = sym failed.0 ∙ done in cc

-- a run that was made ends as a run does
run_end_if : (m : Machine) (ended : Bool) (telling : Telling) (input : Input) (order : List ℕ) → IsRunEnd (verdict_if m.rules m.told ended telling input order).end
run_end_if m true telling input order = tt
run_end_if m false telling input order = tt

pub run_end : (m : Machine) (telling : Telling) (input : Input) (order : List ℕ) (ran : Ran) → IsRan m telling input order ran → IsRunEnd ran.end
run_end m telling input order ran is = subst IsRunEnd (sym (ap (λ (v : Verdict). v.end) is.is)) (run_end_if m (have_ended (m.rules input) (run (m.rules input) order)) telling input order)

module _ (m : Machine) (telling : Telling) (job : Job) (ran : Ran) (end : End) (order : List ℕ) (is : IsRan m telling job.input (order_by m.rules job) ran) (last : IsLastEnd ran.end end) (same : order ≡ ran.order.items) where
  -- the job's order, and whether the run of that has ended
  abbrev whole : List ℕ
  whole = order_by m.rules job

  abbrev ended : Bool
  ended = have_ended (m.rules job.input) (run (m.rules job.input) whole)

  pub order_is : order ≡ whole
  order_is = same ∙ (ap (λ (v : Verdict). v.order) is.is ∙ its_order m.rules m.told ended telling job.input whole)

  pub lawful : m.lawful job.input order
  lawful = subst (m.lawful job.input) (sym order_is) is.law

  filled : IsLastEnd ran.end end → IsFilled m.rules job.input end order
  filled (inl e) = subst (λ o. IsFilled m.rules job.input end o) (sym order_is) (subst (λ e. IsFilled m.rules job.input e whole) (sym e) is.filled)
  filled (inr failed) = subst (λ e. IsFilled m.rules job.input e order) (sym failed.0) tt

  all_ended : end ≡ Done → ended ≡ true
  all_ended done = its_end m.rules m.told ended telling job.input whole (sym (ap (λ (v : Verdict). v.end) is.is) ∙ done_before ran.end end last done)

  pub text_is : end ≡ Done → ran.text.items ≡ told_by telling (m.told job.input order)
  text_is done = ap (λ (v : Verdict). v.text) is.is ∙ (ap (λ b. (verdict_if m.rules m.told b telling job.input whole).text) (all_ended done) ∙ ap (λ o. told_by telling (m.told job.input o)) (sym order_is))

  pub have_all_ended : end ≡ Done → HaveEnded (m.rules job.input) (run (m.rules job.input) order)
  have_all_ended done = ended_from (m.rules job.input) (run (m.rules job.input) order) (ap (λ o. have_ended (m.rules job.input) (run (m.rules job.input) o)) order_is ∙ all_ended done)

  -- the calls that are told of each thread are its whole script
  pub told_scripts : end ≡ Done → TellsScripts job.input.asked (m.told job.input order).calls
  told_scripts done = subst (λ o. TellsScripts job.input.asked (m.told job.input o).calls) (sym order_is) (is.scripts (done_before ran.end end last done))

  -- on disjoint blocks of the machine's arena
  pub told_blocks : end ≡ Done → IsBlockRun (m.arena job.input) (length_of job.input.rows) (m.told job.input order).calls
  told_blocks done = grind (arith)

  -- the lines of calls of what is told are a legal journal, where the arena has the hugepages that the trace says
  pub legal_journal : end ≡ Done → m.arena job.input ≡ job.input.asked.config.huge → IsJournal m.told telling job.input order
  legal_journal done same_arena = subst (IsJournal m.told telling job.input) (sym order_is) (is.journal (done_before ran.end end last done) same_arena)

  pub its_run : (schedule : Schedule) → IsCompleted m schedule job whole → IsOrderOf m schedule job end order
  its_run schedule made = record { whole = order_is; completed = subst (IsCompleted m schedule job) (sym order_is) made; filled = filled last }

-- of picks that threads made under locks holds what does of their machine's: of the per-CPU caches, few switch a thread in
pub made_by : (front : Front) (locks : Locks) (telling : Telling) (input : Input) (ran : Ran) (by : IsRanByThreads (machine_of front) locks telling input ran) → IsMadeOf (machine_of front) input by.came
made_by front locks telling input ran by = grind (arith, completed_is)
