-- What threads left of a run, and what it comes to once it is completed.
use Rattle.std.proofs.Common.{◌≡◌, ℕ, ◌≤◌, List, length, Result, ◌∙◌, arith}
use Rattle.std.specs.Prelude.{IfOk, All, Option, Some, None}
use Rattle.std.specs.declared.alloc.AllocError.{AllocError}
use Rattle.std.proofs.lemmas.List.{length-append, length-map}
use Rattle.tc_model.specs.declared.board.Halt.{Halt}
use Rattle.tc_model.specs.declared.board.Halt.TheVariants.{Memory, Full}
use Rattle.tc_model.specs.declared.board.Turn.{Turn}
use Rattle.tc_model.specs.declared.board.Turn.TheVariants.{Ended}
use Rattle.tc_model.specs.declared.answers.Finished.{Finished}
use Rattle.tc_model.specs.Input.{Input}
use Rattle.tc_model.specs.Run.{Rules, start, run}
use Rattle.tc_model.specs.Steps.{moving}
use Rattle.tc_model.specs.Chains.{IsPolite}
use Rattle.tc_model.specs.Replays.{HaveEnded}
use Rattle.tc_model.specs.Serial.{completed}
use Rattle.tc_model.proofs.Longer.{polite_moves}
use Rattle.tc_model.proofs.Picks.{length_run}
use Rattle.tc_model.proofs.MovingFacts.{moving_all}
use Rattle.alloc_rules.specs.Machine.{turns}
use Rattle.tc_machine.specs.Played.{Played}
use Rattle.replay_workers.specs.Runs.{halt_among}
use Rattle.relay.specs.Ends.{IsRun}
use Rattle.tcreplay.specs.declared.run.Ran.{Ran}
use Rattle.tcreplay.specs.declared.run.Telling.{Telling}
use Rattle.tcreplay.specs.declared.task.Locks.{Locks}
use Rattle.tcreplay.specs.declared.task.Locks.TheVariants.{Parts}
use Rattle.tcreplay.specs.Came.{IsLeft}
use Rattle.tcreplay.specs.Ran.{seen_ran, IsRunOf, IsRunByThreads}
use Rattle.tcreplay.proofs.RunFacts.{completed_is}

-- what was left is the run of the order that came, so its picks move
pub left_moves : {P L : Type 0} (r : Rules P L) (parts : List P) (locals : List L) (order : List ℕ) → IsRun r parts locals order → moving r (start r) order ≡ order
left_moves r parts locals order left = moving_all r (start r) order (polite_moves r (start r) order left.polite)

-- over the rules of a machine
module _ {P L : Type 0} (rules : Input → Rules P L) where
  -- behind any order there are as many as at the start
  pub many_locals : (input : Input) (order : List ℕ) → length (rules input).locals ≡ input.asked.config.threads → length (run (rules input) order).locals ≡ input.asked.config.threads
  many_locals input order many = length_run (rules input) order ∙ many

  -- a run that threads began and that was completed, with the locks under which it began
  module _ (arena : Input → ℕ) (told : Input → List ℕ → Finished) (lawful : Input → List ℕ → Type 0)
      (is_few : (input : Input) (order : List ℕ) → lawful input order → length order ≤ input.asked.config.events) where
    pub by_threads_under : (locks : Locks) (telling : Telling) (input : Input) (came : List ℕ) (ran under : Ran)
        → seen_ran under ≡ seen_ran ran → under.under ≡ Some locks → IsPolite (rules input) (start (rules input)) came
        → IsRunOf rules arena told lawful telling input (completed (rules input) (turns input.asked) input.asked.config.events came) ran
        → IsRunByThreads rules arena told lawful locks telling input under
    by_threads_under locks telling input came ran under seen locked polite ran_so = grind (arith, length-append, completed_is)

  -- what was left under part locks
  pub parts_left : {C O : Type 0} (result : Result C AllocError) (state : C → Played O) (under : C → Locks) (last : C → List Turn) (stopped : C → Option Halt) (input other : Input) (order : List ℕ) (lasts : List Turn) (halt : Option Halt)
      → other ≡ input → IsPolite (rules input) (start (rules input)) order → halt ≡ halt_among lasts → (halt_among lasts ≡ None → All (λ last. last ≡ Ended) lasts)
      → (halt ≡ Some Full → length order ≡ input.asked.config.events) → length lasts ≡ input.asked.config.threads
      → (halt ≡ None → HaveEnded (rules input) (run (rules input) order))
      → IfOk result (λ c. (state c).input ≡ other) → IfOk result (λ c. (state c).order ≡ order) → IfOk result (λ c. under c ≡ Parts) → IfOk result (λ c. last c ≡ lasts)
      → IfOk result (λ c. stopped c ≡ halt) → IfOk result (λ c. stopped c ≡ Some Memory → ⊥) → IfOk result (λ c. IsLeft rules input Parts (state c) (under c) (last c) (stopped c))
  parts_left result state under last stopped input other order lasts halt same polite is over full each ended i o k l h enough = grind (arith, length-map)
