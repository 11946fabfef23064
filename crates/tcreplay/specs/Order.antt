-- Which order a run has.
use Rattle.std.specs.Prelude.{◌≡◌, ℕ, List, length}
use Rattle.tc_model.specs.Input.{Input}
use Rattle.tc_model.specs.declared.steps.Stepped.TheVariants as step
use Rattle.tc_model.specs.Run.{Rules, run}
use Rattle.tc_model.specs.Steps.{stepped}
use Rattle.tc_model.specs.Serial.{completed}
use Rattle.alloc_rules.specs.Machine.{turns}
use Rattle.tcreplay.specs.declared.outcome.End.{End}
use Rattle.tcreplay.specs.declared.outcome.End.TheVariants.{Full}
use Rattle.tcreplay.specs.Tasks.{Schedule, ByThreads}
use Rattle.tcreplay.specs.Machines.{Machine}
use Rattle.tcreplay.specs.Verdict.{Job, order_by}

-- The order of a run whose first picks are those of worker threads is these, completed: behind them the thread of the
-- earliest call in trace order that hasn't ended is picked.
abbrev pub IsCompleted : Machine → Schedule → Job → List ℕ → Type 0
IsCompleted m (ByThreads locks) job order = order ≡ completed (m.rules job.input) (turns job.input.asked) job.input.asked.config.events job.picks
IsCompleted m schedule job order = Unit {0}

-- where a run stands at its limit, as many picks moved as may, which is the number told, and one pick more would move
abbrev pub IsFilled : {P L : Type 0} → (Input → Rules P L) → Input → End → List ℕ → Type 0
IsFilled rules input (Full ticket) order =
    (ticket ≡ input.asked.config.events) × (length order ≡ ticket) × ((thread : ℕ) × (stepped (rules input) (run (rules input) order) thread ≡ step.Moved))
IsFilled rules input end order = Unit {0}

pub record IsOrderOf (m : Machine) (schedule : Schedule) (job : Job) (end : End) (order : List ℕ) : Type 0 where
  pub whole : order ≡ order_by m.rules job
  pub completed : IsCompleted m schedule job order
  pub filled : IsFilled m.rules job.input end order
