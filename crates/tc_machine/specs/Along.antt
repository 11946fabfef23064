-- What is told of a run along its order.
use Rattle.std.specs.Prelude.{◌≡◌, ◌≤◌, ℕ, List, length, map, Option, IfSome}
use Rattle.tc_model.specs.declared.answers.CallLine.{CallLine}
use Rattle.tc_model.specs.declared.steps.StepFault.{StepFault}
use Rattle.tc_model.specs.declared.steps.StepFault.TheVariants.{Full, Memory}
use Rattle.tc_model.specs.Run.{Rules, run}
use Rattle.tc_model.specs.Serial.{IsAtLimit}
use Rattle.tc_model.specs.Sound.{IsOrder}
use Rattle.tc_machine.specs.Telling.{HearsEach}

-- How many calls each thread has decided is known, and the listener has heard all calls so
-- far, if memory wasn't wanting. It may hear those of every order.
pub record IsAlong {P L X : Type 0} (heard : X → X → List CallLine → Type 0) (may_hear : X → List CallLine → CallLine → Type 0) (count : L → ℕ)
    (calls : List ℕ → List CallLine) (r : Rules P L) (order : List ℕ) (first : X) (decided : List ℕ) (now : Option X) : Type 0 where
  pub decided_is : decided ≡ map count (run r order).locals
  pub few : length (calls order) ≤ length order
  pub hears : (o : List ℕ) → IsOrder r o → HearsEach (may_hear first) (calls o)
  pub so_far : IfSome now (λ x. heard first x (calls order))

-- why a run was not told whose order would be this whole one: it stands at its limit, or memory was wanting
abbrev pub IsStopped : {P L : Type 0} → Rules P L → ℕ → List ℕ → List ℕ → StepFault → Type 0
IsStopped r limit whole order (Full ticket) = IsAtLimit r limit whole order ticket
IsStopped r limit whole order Memory = Unit {0}
