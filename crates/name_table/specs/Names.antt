-- What the labels of a table mean, from label 0 on.
use Rattle.std.specs.Prelude.{◌≡◌, ℕ, Bool, true, false, List, [], ◌∷◌, Some, None, slice_set}
use Rattle.std.specs.List.{slice_index_or}
use Rattle.tc_units.specs.declared.units.Addr.{Addr}
use Rattle.name_table.specs.declared.table.NameState.{NameState}
use Rattle.name_table.specs.declared.table.NameState.TheVariants as state
use Rattle.name_table.specs.declared.table.Slot.{Slot}
use Rattle.name_table.specs.declared.table.Slot.TheVariants as slot
use Rattle.name_table.specs.declared.table.Taken.{Taken}
use Rattle.name_table.specs.declared.table.Taken.TheVariants.{Set, NotYet}

-- what a table keeps of a label, as its state
abbrev pub meaning : Slot → Addr → NameState
meaning slot.Unpublished addr = state.Unpublished
meaning slot.Null addr = state.Published None
meaning slot.At addr = state.Published (Some addr)
meaning slot.Taken addr = state.Taken

-- the same of all labels
abbrev pub meanings : List Slot → List Addr → List NameState
meanings (s ∷ ss) (a ∷ as') = meaning s a ∷ meanings ss as'
meanings [] addrs = []
meanings (s ∷ ss) [] = []

-- what a label means
abbrev pub state_of : List NameState → ℕ → NameState
state_of names label = slice_index_or names label state.Unpublished

-- whether a label with this meaning was published, taken since or not
abbrev pub was_published : NameState → Bool
was_published state.Unpublished = false
was_published (state.Published value) = true
was_published state.Taken = true

-- taking a label either finds it unpublished and changes nothing, or gives the value with which it was published and changes that label alone
abbrev pub TakesName : List NameState → List NameState → ℕ → Taken → Type 0
TakesName old new label NotYet = (state_of old label ≡ state.Unpublished) × (new ≡ old)
TakesName old new label (Set value) = (state_of old label ≡ state.Published value) × (new ≡ slice_set old label state.Taken)
