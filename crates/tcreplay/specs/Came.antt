-- What worker threads left of a state.
use Rattle.std.specs.Prelude.{◌≡◌, List, length, All, Option, Some, None}
use Rattle.tc_model.specs.declared.board.Halt.{Halt}
use Rattle.tc_model.specs.declared.board.Halt.TheVariants.{Memory, Full}
use Rattle.tc_model.specs.declared.board.Turn.{Turn}
use Rattle.tc_model.specs.declared.board.Turn.TheVariants.{Ended}
use Rattle.tc_model.specs.Input.{Input}
use Rattle.tc_model.specs.Run.{Rules, start, run}
use Rattle.tc_model.specs.Replays.{HaveEnded}
use Rattle.tc_model.specs.Chains.{IsPolite}
use Rattle.replay_workers.specs.Runs.{halt_among}
use Rattle.tc_machine.specs.Played.{Played}
use Rattle.tcreplay.specs.declared.task.Locks.{Locks}
use Rattle.tcreplay.specs.declared.task.Locks.TheVariants.{Parts}

-- They ran on this input from its start, under these locks; each of their picks moved and was polite; each thread has a last
-- answer; the halt is that of these, and none lacked memory; where none was halted, each answered last that its script has
-- ended. Under part locks each script has ended then, and where one was halted at the limit, as many picks moved as may.
pub record IsLeft {O P L : Type 0} (rules : Input → Rules P L) (input : Input) (locks : Locks) (state : Played O)
    (under : Locks) (lasts : List Turn) (halt : Option Halt) : Type 0 where
  pub input_is : state.input ≡ input
  pub locks_are : under ≡ locks
  pub polite : IsPolite (rules input) (start (rules input)) state.order
  pub each : length lasts ≡ input.asked.config.threads
  pub halt_is : halt ≡ halt_among lasts
  pub enough : halt ≡ Some Memory → ⊥
  pub over : halt ≡ None → All (λ last. last ≡ Ended) lasts
  pub ended : locks ≡ Parts → halt ≡ None → HaveEnded (rules input) (run (rules input) state.order)
  pub full : locks ≡ Parts → halt ≡ Some Full → length state.order ≡ input.asked.config.events
