-- A polite pick without a fault, as a turn.
use Rattle.std.proofs.Common.{◌≡◌, ℕ, ◌<◌, ◌↔◌, Bool, true, false, List, length, Option, Some, None, refl, sym, ◌∙◌}
use Rattle.std.specs.Option.{IfNone}
use Rattle.std.proofs.lemmas.Bool.{false≢true}
use Rattle.std.proofs.Common.{arith}
use Rattle.tc_model.specs.declared.board.Turn.{Turn}
use Rattle.tc_model.specs.declared.board.Turn.TheVariants.{Held}
use Rattle.tc_model.specs.declared.board.Halt.{Halt}
use Rattle.tc_model.specs.declared.board.Turn.TheVariants as turn
use Rattle.tc_model.specs.declared.steps.Stepped.{Stepped}
use Rattle.tc_model.specs.declared.steps.Stepped.TheVariants as step
use Rattle.tc_model.specs.Run.{Rules, run}
use Rattle.tc_model.specs.Steps.{stepped}
use Rattle.tc_model.specs.declared.steps.StepFault.{StepFault}
use Rattle.tc_model.specs.declared.steps.StepFault.TheVariants as fault
use Rattle.tc_model.specs.Replays.{is_polite, IsFaultAt}
use Rattle.world_lock.specs.Stepping.{IsTurnAt, halt_of, turn_of}

pub turn_at : {P L : Type 0} (r : Rules P L) (limit : ℕ) (order : List ℕ) (t : ℕ) (s : Stepped) → is_polite r (run r order) t ≡ true
    → s ≡ stepped r (run r order) t → (s ≡ step.Moved → length order < limit) → IsTurnAt r limit order t (turn_of s)
turn_at r limit order t s polite answer room = grind (arith)

pub halted_at : {P L : Type 0} (r : Rules P L) (limit : ℕ) (order : List ℕ) (t : ℕ) (x : StepFault) → is_polite r (run r order) t ≡ true
    → IsFaultAt r limit order t x → IsTurnAt r limit order t (turn.Halted (halt_of x))
halted_at r limit order t (fault.Full ticket) polite is = (polite, record { ticket_is = refl; full = is.full; would_move = is.would_move })
halted_at r limit order t fault.Memory polite is = (polite, tt)

-- what holds in any case holds where nothing is there
pub if_none : {A X : Type 0} (o : Option A) → X → IfNone o X
if_none None x = x
if_none (Some a) x = tt

-- a turn of a polite pick isn't held
pub goes : (b : Bool) (x : Turn) → b ≡ true → (x ≡ Held → ⊥) → (x ≡ Held) ↔ (b ≡ false)
goes b x polite never = (λ is. absurd (never is), λ off. absurd (false≢true (sym off ∙ polite)))

pub never_held : (s : Stepped) → turn_of s ≡ Held → ⊥
never_held s is = grind (arith)

pub never_halted : (cause : Halt) → turn.Halted cause ≡ Held → ⊥
never_halted cause is = absurd (cc)
