-- What a step under the lock answers and leaves.
use Rattle.std.specs.Prelude.{◌≡◌, ℕ, ◌<◌, true, false, List, [], ◌∷◌, ◌++◌, length, Option, Some, IfSome, IfNone}
use Rattle.tc_model.specs.declared.board.Halt.{Halt}
use Rattle.tc_model.specs.declared.board.Halt.TheVariants.{Memory, Full}
use Rattle.tc_model.specs.declared.board.Turn.{Turn}
use Rattle.tc_model.specs.declared.board.Turn.TheVariants.{Moved, NotYet, Held, Ended, Halted}
use Rattle.tc_model.specs.declared.steps.StepFault.{StepFault}
use Rattle.tc_model.specs.declared.steps.StepFault.TheVariants as fault
use Rattle.tc_model.specs.declared.steps.Stepped.{Stepped}
use Rattle.tc_model.specs.declared.steps.Stepped.TheVariants as step
use Rattle.tc_model.specs.Input.{Input}
use Rattle.tc_model.specs.Run.{Rules, start, run}
use Rattle.tc_model.specs.Steps.{stepped}
use Rattle.tc_model.specs.Chains.{IsPolite}
use Rattle.tc_model.specs.Replays.{is_polite, IsFullAt, done_in}
use Rattle.cpu_rows.specs.Machine.{rules}

-- the turn that a pick without a fault comes to
abbrev pub turn_of : Stepped → Turn
turn_of step.Moved = Moved
turn_of step.NotYet = NotYet
turn_of step.Ended = Ended

-- the cause of the halt behind a fault
abbrev pub halt_of : StepFault → Halt
halt_of (fault.Full ticket) = Full
halt_of fault.Memory = Memory

-- the order after a turn of a thread
abbrev pub order_after : List ℕ → ℕ → Turn → List ℕ
order_after order t Moved = order ++ t ∷ []
order_after order t NotYet = order
order_after order t Held = order
order_after order t Ended = order
order_after order t (Halted cause) = order

-- the cause of the halt after a turn
abbrev pub halt_after : Option Halt → Turn → Option Halt
halt_after halt Moved = halt
halt_after halt NotYet = halt
halt_after halt Held = halt
halt_after halt Ended = halt
halt_after halt (Halted cause) = Some cause

-- why a pick is halted: it would move, and as many picks have moved as may; or memory ran out
abbrev pub IsHaltAt : {P L : Type 0} → Rules P L → ℕ → List ℕ → ℕ → Halt → Type 0
IsHaltAt r limit order t Full = IsFullAt r limit order t limit
IsHaltAt r limit order t Memory = Unit {0}

-- When a turn has this answer, where none was halted before: all but Held are of polite picks.
abbrev pub IsTurnAt : {P L : Type 0} → Rules P L → ℕ → List ℕ → ℕ → Turn → Type 0
IsTurnAt r limit order t Moved = (is_polite r (run r order) t ≡ true) × (stepped r (run r order) t ≡ step.Moved) × (length order < limit)
IsTurnAt r limit order t NotYet = (is_polite r (run r order) t ≡ true) × (stepped r (run r order) t ≡ step.NotYet)
IsTurnAt r limit order t Held = is_polite r (run r order) t ≡ false
IsTurnAt r limit order t Ended = (is_polite r (run r order) t ≡ true) × (stepped r (run r order) t ≡ step.Ended)
IsTurnAt r limit order t (Halted cause) = (is_polite r (run r order) t ≡ true) × IsHaltAt r limit order t cause

-- What a turn of a thread came to at the locked state of an input: behind the polite picks of some order, and after a halt or
-- before one. After a halt it is halted, for the same cause; else its answer is that of one step, and `done` is how many of the
-- thread's calls have ended then.
pub record HasTurned (input : Input) (thread : ℕ) (answer : Turn) (done : ℕ) : Type 0 where
  pub order : List ℕ
  pub halt : Option Halt
  pub polite : IsPolite (rules input) (start (rules input)) order
  pub halted : IfSome halt (λ cause. answer ≡ Halted cause)
  pub turned : IfNone halt (IsTurnAt (rules input) input.asked.config.events order thread answer)
  pub done_is : done ≡ done_in (rules input) (run (rules input) (order_after order thread answer)) thread
