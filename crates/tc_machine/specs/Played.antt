-- A state of the allocator, as contracts see it: what it is a run of, and the order of the picks that moved.
use Rattle.std.specs.Prelude.{ℕ, List}
use Rattle.tc_model.specs.declared.answers.Finished.{Finished}
use Rattle.tc_model.specs.Input.{Input}
use Rattle.tc_model.specs.Run.{Rules, World, run}

-- the options of its machine, the input, and the order
pub record Played (O : Type 0) : Type 0 where
  pub options : O
  pub input : Input
  pub order : List ℕ

-- its parts and locals: they are those of the run of its order, by the rules of its options and its input
abbrev pub world : {O P L : Type 0} → (O → Input → Rules P L) → Played O → World P L
world rules played = run (rules played.options played.input) played.order

-- what its run has to tell
abbrev pub told_at : {O : Type 0} → (O → Input → List ℕ → Finished) → Played O → Finished
told_at told played = told played.options played.input played.order
