-- What a run came to.
use Rattle.std.specs.Prelude.{◌≡◌, ℕ, ◌≤◌, List, length, All, None, Some, IfSome}
use Rattle.tc_units.specs.Classes.{length_of}
use Rattle.tc_model.specs.declared.answers.CallLine.{CallLine}
use Rattle.tc_model.specs.declared.answers.Finished.{Finished}
use Rattle.tc_model.specs.Blocks.{IsBlockRun}
use Rattle.tc_model.specs.Input.{Input}
use Rattle.tc_model.specs.Run.{Rules, start}
use Rattle.tc_model.specs.Chains.{IsPolite}
use Rattle.alloc_rules.specs.Told.{TellsScripts}
use Rattle.tcreplay.specs.declared.run.Ran.{Ran}
use Rattle.tcreplay.specs.declared.run.Telling.{Telling}
use Rattle.tcreplay.specs.declared.task.Locks.{Locks}
use Rattle.tcreplay.specs.declared.run.Telling.TheVariants.{Whole, Summary}
use Rattle.tcreplay.specs.declared.outcome.End.TheVariants.{Done}
use Rattle.tcreplay.specs.Verdict.{Verdict, order_by, judged_by, text_with}
use Rattle.tcreplay.specs.Auditing.{plan_in}
use Rattle.tcreplay.specs.Machines.{Machine}
use Rattle.usage_report.specs.Report.{IsTellable}
use Rattle.journal_audit.specs.Rules.{journal_of}
use Rattle.journal_audit.specs.Legal.{IsLegal}
use Rattle.tcreplay.specs.Order.{IsFilled}

-- as the verdict has it
abbrev pub seen_ran : Ran → Verdict
seen_ran ran = record { end = ran.end; order = ran.order.items; text = ran.text.items }

-- the calls of a whole text have numbers that can be read again
abbrev pub AreTellable : Telling → List CallLine → Type 0
AreTellable (Whole rows sample) calls = All IsTellable calls
AreTellable Summary calls = Unit {0}

-- a sampled profile has a step
abbrev pub HasStep : Telling → Type 0
HasStep (Whole rows sample) = IfSome sample (λ step. 1 ≤ step)
HasStep Summary = Unit {0}

-- no profile is told
abbrev pub IsPlain : Telling → Type 0
IsPlain (Whole rows sample) = sample ≡ None
IsPlain Summary = Unit {0}

-- the lines of calls of a whole text are a legal journal of what was run, by what a run of a machine tells
abbrev pub IsJournal : (Input → List ℕ → Finished) → Telling → Input → List ℕ → Type 0
IsJournal told (Whole rows sample) input order = IsLegal (plan_in input) (journal_of (text_with rows sample (told input order)))
IsJournal told Summary input order = Unit {0}

-- over the rules of a machine, its arena, what a run of it tells, and its law for an order:
module _ {P L : Type 0} (rules : Input → Rules P L) (arena : Input → ℕ) (told : Input → List ℕ → Finished) (lawful : Input → List ℕ → Type 0) where
  -- What the run of an order came to: the verdict on it, its law, and where it has ended, that the calls which are told of each
  -- thread are its whole script, that their blocks are a run on disjoint blocks of the arena, and that what is told is legal
  -- where the arena has the hugepages that the trace says.
  pub record IsRunOf (telling : Telling) (input : Input) (order : List ℕ) (ran : Ran) : Type 0 where
    pub is : seen_ran ran ≡ judged_by rules told telling input order
    pub law : lawful input order
    pub filled : IsFilled rules input ran.end order
    pub scripts : ran.end ≡ Done → TellsScripts input.asked (told input order).calls
    pub blocks : ran.end ≡ Done → IsBlockRun (arena input) (length_of input.rows) (told input order).calls
    pub journal : ran.end ≡ Done → arena input ≡ input.asked.config.huge → IsJournal told telling input order

  -- what the run of an order came to that threads began under these locks and that was completed
  pub record IsRunByThreads (locks : Locks) (telling : Telling) (input : Input) (ran : Ran) : Type 0 where
    pub under : ran.under ≡ Some locks
    pub came : List ℕ
    pub polite : IsPolite (rules input) (start (rules input)) came
    pub few : length came ≤ input.asked.config.events
    pub whole : IsRunOf telling input (order_by rules (record { input = input; picks = came })) ran

-- over a machine
abbrev pub IsRan : Machine → Telling → Input → List ℕ → Ran → Type 0
IsRan m = IsRunOf m.rules m.arena m.told m.lawful

abbrev pub IsRanByThreads : Machine → Locks → Telling → Input → Ran → Type 0
IsRanByThreads m = IsRunByThreads m.rules m.arena m.told m.lawful
