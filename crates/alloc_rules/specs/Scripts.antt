-- Where a local is in its script, that its decided calls are the first ones of it, and how an act goes on in it.
use Rattle.std.specs.Prelude.{◌≡◌, ℕ, ◌+◌, ◌<◌, ◌⊎◌, Bool, true, false, List, [], ◌∷◌, ◌++◌, length, drop, None, Some, is_some, slice_get}
use Rattle.tc_units.specs.declared.units.Label.{Label}
use Rattle.tc_model.specs.declared.calls.Call.{Call}
use Rattle.tc_model.specs.declared.calls.Call.TheVariants.{Malloc}
use Rattle.tc_model.specs.declared.calls.Planned.{Planned}
use Rattle.name_table.specs.declared.table.NameState.{NameState}
use Rattle.name_table.specs.Names.{state_of}
use Rattle.holdings.specs.Accounts.{Doing, asking, publishing, is_out}
use Rattle.call_steps.specs.declared.step.Step.{Step}
use Rattle.call_steps.specs.declared.step.Step.TheVariants as does
use Rattle.call_steps.specs.Fronts.{FrontCalls}
use Rattle.call_steps.specs.Local.{Local, Decided, first_act}
use Rattle.call_steps.specs.Calls.{About}
use Rattle.call_steps.specs.Rows.{step_rule, undecided, under}
use Rattle.call_steps.specs.Kept.{call_at}

-- what a step is about with a label
abbrev pub doing_of : {R : Type 0} → (R → About) → Step R → Doing
doing_of about s = (step_rule s).doing about

-- whether a call is under way
abbrev pub is_under_way : {R : Type 0} → Step R → Bool
is_under_way does.Ended = false
is_under_way other = true

module _ {V R : Type 0} (e : FrontCalls V R) (about : R → About) where
  -- A local is at the call of its script that its number of ended calls says; the labels that ended calls allocated are out,
  -- and so is that of the allocation under way, unless it is still to be published; and each call is decided once, in the
  -- script's order.
  pub record IsIn (names : List NameState) (script : List Planned) (l : Local V R) : Type 0 where
    pub rest : (j : ℕ) → slice_get l.rest j ≡ slice_get script (l.ended + 1 + j)
    pub call : (c : Call) → undecided about l.step ≡ Some c → call_at script l.ended ≡ Some c
    pub some : is_under_way l.step ≡ true → is_some (call_at script l.ended) ≡ true
    pub none : is_under_way l.step ≡ false → call_at script l.ended ≡ None
    pub out : (j : ℕ) (label : Label) (size : ℕ) → j < l.ended → call_at script j ≡ Some (Malloc label size) → is_out (state_of names label.0) ≡ true
    pub now : (label : Label) (size : ℕ) → call_at script l.ended ≡ Some (Malloc label size) → (is_out (state_of names label.0) ≡ true) ⊎ (0 < asking label.0 (doing_of about l.step) + publishing label.0 (doing_of about l.step))
    pub count : length l.answers ≡ l.ended + under about l.step
    pub decided : (j : ℕ) (d : Decided) → slice_get l.answers j ≡ Some d → call_at script j ≡ Some d.call

  -- An act within a call decides nothing, or the call under way; one that ends it does so too, or it was decided before.
  abbrev pub GoesOn : Step R → Step R → List Decided → Type 0
  GoesOn s next [] = (undecided about next ≡ undecided about s) × (under about next ≡ under about s)
  GoesOn s next (d ∷ []) = (undecided about s ≡ Some d.call) × (undecided about next ≡ None) × (under about next ≡ 1)
  GoesOn s next (d ∷ x ∷ more) = ⊥

  abbrev pub Closes : Step R → List Decided → Type 0
  Closes s [] = (under about s ≡ 1) × (undecided about s ≡ None)
  Closes s (d ∷ []) = undecided about s ≡ Some d.call
  Closes s (d ∷ x ∷ more) = ⊥

  pub data Path (l after : Local V R) : Type 0 where
    Stays : (new : List Decided) → after.answers ≡ l.answers ++ new → after.ended ≡ l.ended → after.rest ≡ l.rest → is_under_way after.step ≡ true → GoesOn l.step after.step new → Path l after
    Comes : (new : List Decided) → after.answers ≡ l.answers ++ new → after.ended ≡ l.ended + 1 → after.rest ≡ drop 1 l.rest → after.step ≡ first_act e after.seat (slice_get l.rest 0) → Closes l.step new → Path l after
