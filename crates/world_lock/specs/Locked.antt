-- A state under the lock, as contracts see it.
use Rattle.std.specs.Prelude.{ℕ, List, [], Option}
use Rattle.tc_model.specs.declared.board.Halt.{Halt}
use Rattle.tc_model.specs.Heads.{default_config}
use Rattle.tc_model.specs.Input.{Input}

-- the order of its picks, and why no further pick moves, where one was halted
pub record Locked : Type 0 where
  pub order : List ℕ
  pub halt : Option Halt

-- an input without calls
abbrev pub empty_input : Input
empty_input = record { rows = []; asked = record { config = default_config; calls = [] } }
