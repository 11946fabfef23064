-- What a run comes to, from what the machine says of it.
use Rattle.std.proofs.Common.{◌≡◌, ℕ, ◌+◌, ◌≤◌, Bool, true, false, cond, List, [], ◌∷◌, ◌++◌, length, Result, Err, refl, sym, ap, subst, ◌∙◌, arith}
use Rattle.std.specs.Prelude.{IfErr}
use Rattle.std.proofs.lemmas.Bool.Decides.{nat_tests}
use Rattle.std.proofs.lemmas.List.{append-nil, append_assoc, length-append}
use Rattle.std.proofs.lemmas.List.Sums.{fold-append}
use Rattle.tc_model.specs.declared.answers.Finished.{Finished}
use Rattle.tc_model.specs.declared.steps.StepFault.{StepFault}
use Rattle.tc_model.specs.Input.{Input}
use Rattle.tc_model.specs.Run.{Rules, start, run}
use Rattle.tc_model.specs.Chains.{IsPolite}
use Rattle.tc_model.specs.Replays.{HaveEnded}
use Rattle.tc_model.specs.Serial.{completed, followed, IsAtLimit}
use Rattle.tc_model.proofs.Longer.{polite_moves}
use Rattle.alloc_rules.specs.Machine.{turns}
use Rattle.tcreplay.specs.declared.outcome.End.TheVariants.{Done, Full}
use Rattle.tcreplay.specs.declared.run.Telling.{Telling}
use Rattle.tc_machine.specs.Along.{IsStopped}
use Rattle.tcreplay.specs.Verdict.{Verdict, judged_by, order_by, told_by}
use Rattle.tcreplay.specs.Order.{IsFilled}
use Rattle.tcreplay.proofs.Ended.{ended_true, not_ended}

-- what holds of a fault holds of the one that came
pub cut_by : {A : Type 0} (r : Result A StepFault) (P : StepFault → Type 0) (found fault : StepFault) → r ≡ Err found → found ≡ fault → IfErr r P → P fault
cut_by {A} r P found fault is same holds = subst P same (subst (λ (x : Result A StepFault). IfErr x P) is holds)

-- picks that are polite and no more than may move are followed one by one
followed_each : {P L : Type 0} (r : Rules P L) (limit : ℕ) (past picks : List ℕ) → IsPolite r (run r past) picks → length past + length picks ≤ limit → followed r limit past picks ≡ past ++ picks
followed_each r limit past [] polite few = sym (append-nil past)
followed_each r limit past (t ∷ ts) polite few =
    grind (arith, nat_tests, followed_each r limit (past ++ t ∷ []) ts, polite_moves, fold-append, length-append, append_assoc)

-- a run at its limit hasn't ended
pub not_done : {A : Type 0} (ticket : ℕ) → Full ticket ≡ Done → A
not_done ticket done = absurd (cc)

-- a run that was stopped would have come to some whole order
pub some_whole : {P L : Type 0} (r : Rules P L) (limit : ℕ) (whole order : List ℕ) (fault : StepFault) → IsStopped r limit whole order fault
    → (whole : List ℕ) × IsStopped r limit whole order fault
some_whole r limit whole order fault stopped = (whole, stopped)

-- over the rules of a machine
module _ {P L : Type 0} (rules : Input → Rules P L) where
  abbrev pub at_limit : Input → List ℕ → Verdict
  at_limit input order = record { end = Full input.asked.config.events; order = order; text = [] }

  -- at the limit an order has as many picks as may move
  pub filled_at : (input : Input) (whole order : List ℕ) (ticket : ℕ) → IsAtLimit (rules input) input.asked.config.events whole order ticket → IsFilled rules input (Full ticket) order
  filled_at input whole order ticket limit = (limit.ticket_is, limit.full ∙ sym limit.ticket_is, (limit.thread, limit.would_move))

  -- the order of a job whose picks threads made is these picks, completed
  pub completed_is : (input : Input) (came : List ℕ) → IsPolite (rules input) (start (rules input)) came → length came ≤ input.asked.config.events
      → completed (rules input) (turns input.asked) input.asked.config.events came ≡ order_by rules (record { input = input; picks = came })
  completed_is input came polite few = sym (ap (completed (rules input) (turns input.asked) input.asked.config.events) (followed_each (rules input) input.asked.config.events [] came polite (omega arith)))

  -- and what a run of it tells
  module _ (told : Input → List ℕ → Finished) where
    -- the verdict on an order of a run that has ended, and of one that stands at the limit
    abbrev pub at_end : Telling → Input → List ℕ → Verdict
    at_end telling input order = record { end = Done; order = order; text = told_by telling (told input order) }

    -- the verdict on an order answers with that order, and is `Done` only where the run has ended
    abbrev pub verdict_if : Bool → Telling → Input → List ℕ → Verdict
    verdict_if ended telling input order = cond ended (at_end telling input order) (at_limit input order)

    pub its_order : (ended : Bool) (telling : Telling) (input : Input) (order : List ℕ) → (verdict_if ended telling input order).order ≡ order
    its_order true telling input order = refl
    its_order false telling input order = refl

    pub its_end : (ended : Bool) (telling : Telling) (input : Input) (order : List ℕ) → (verdict_if ended telling input order).end ≡ Done → ended ≡ true
    its_end true telling input order done = refl
    its_end false telling input order done = absurd (cc)

    -- the verdict on a run that has ended, and on one that stands at the limit
    pub told_done : (telling : Telling) (input : Input) (order items text : List ℕ) (f : Finished) → HaveEnded (rules input) (run (rules input) order)
        → f ≡ told input order → items ≡ order → text ≡ told_by telling f
        → record { end = Done; order = items; text = text } ≡ judged_by rules told telling input order
    told_done telling input order items text f ended finished given printed = grind (arith, ended_true)

    pub told_full : (telling : Telling) (input : Input) (whole order items text : List ℕ) (ticket : ℕ)
        → IsAtLimit (rules input) input.asked.config.events whole order ticket → items ≡ order → text ≡ []
        → record { end = Full ticket; order = items; text = text } ≡ judged_by rules told telling input order
    told_full telling input whole order items text ticket limit given empty = grind (arith, not_ended)
