-- What is kept of a label.
use Rattle.std.specs.Prelude.{ℕ, ◌≡◌, ◌==◌, if◌then◌else◌, Bool, true, false, List, Option, Some, None}
use Rattle.std.specs.List.{slice_index_or}
use Rattle.tc_model.specs.declared.calls.Call.{Call}
use Rattle.tc_model.specs.declared.calls.Call.TheVariants as call
use Rattle.tc_model.specs.declared.answers.Answer.{Answer}
use Rattle.tc_model.specs.declared.answers.Answer.TheVariants.{Block, NoBlock}
use Rattle.journal_audit.specs.declared.told.Place.{Place}
use Rattle.journal_audit.specs.declared.told.Act.{Act}
use Rattle.journal_audit.specs.declared.told.Act.TheVariants.{Malloc, Free}
use Rattle.journal_audit.specs.declared.answers.Given.{Given}
use Rattle.journal_audit.specs.declared.answers.Given.TheVariants.{Unanswered, Null, At, Freed}

-- what is kept of a label
abbrev pub given_at : List Given → ℕ → Given
given_at given label = slice_index_or given label Unanswered

-- it is what the label's allocation was answered, or that a free has given that back
abbrev pub IsGiven : Given → Option Answer → Bool → Type 0
IsGiven Unanswered answer freed = (answer ≡ None) × (freed ≡ false)
IsGiven Null answer freed = (answer ≡ Some NoBlock) × (freed ≡ false)
IsGiven (At addr) answer freed = ((len : ℕ) × (answer ≡ Some (Block (record { 0 = addr }) len))) × (freed ≡ false)
IsGiven Freed answer freed = freed ≡ true

-- what is kept of an allocation's answer, and of a label where an allocation is answered: its first answer alone
abbrev pub malloc_given : Option Place → Given
malloc_given None = Null
malloc_given (Some place) = At place.addr

abbrev pub first_given : Given → Given → Given
first_given new Unanswered = new
first_given new Null = Null
first_given new (At addr) = At addr
first_given new Freed = Freed

abbrev pub given_after : ℕ → ℕ → Given → Given → Given
given_after l label new old = if l == label then first_given new old else old

-- what is kept of a label where a call was answered
abbrev pub given_by : Call → Act → ℕ → Given → Given
given_by (call.Malloc label size) (Malloc l block) other old = given_after other label.0 (malloc_given block) old
given_by (call.Free label) (Free l addr) other old = if other == label.0 then Freed else old
given_by call act other old = old
