-- What a line of a trace says, its numbers in their ranges.
use Rattle.std.specs.Prelude.{ℕ, ◌≡◌, ◌<◌, ◌≤◌, Bool, true, false, ◌==◌, nat_le, List, [], ◌∷◌, length, Option, Some, None, Result, Err, if◌then◌else◌, option_map, option_and_then}
use Rattle.std.specs.Option.{ok_or}
use Rattle.tc_units.specs.Decimal.{number_of}
use Rattle.tc_model.specs.Heads.{IsValueOf}
use Rattle.trace_reader.specs.declared.why.LineWhy.{LineWhy}
use Rattle.trace_reader.specs.declared.why.LineWhy.TheVariants as why
use Rattle.trace_reader.specs.Limits.{most_labels, most_size, most_before, most_released, most_capacity}
use Rattle.trace_reader.specs.declared.word.Word.{Word}
use Rattle.trace_reader.specs.declared.word.Word.TheVariants as word
use Rattle.trace_reader.specs.declared.form.Form.{Form}
use Rattle.trace_reader.specs.declared.form.Form.TheVariants.{Head, Malloc, Free, Move, Release, Drain, Resize}
use Rattle.trace_reader.specs.Words.{Range, is_head, ranges_of}

-- the number of a field, where it is a canonical decimal in its range
abbrev pub number_in : Range → List ℕ → Option ℕ
number_in range field = option_and_then (λ n. if nat_le range.least n then Some n else None) (number_of range.most field)

-- the numbers of fields, where each is in its range
abbrev pub numbers_in : List Range → List (List ℕ) → Option (List ℕ)
numbers_in [] [] = Some []
numbers_in (range ∷ ranges) (field ∷ fields) = option_and_then (λ n. option_map (λ more. n ∷ more) (numbers_in ranges fields)) (number_in range field)
numbers_in ranges fields = None

-- a word with the values behind it
abbrev pub form_with : Word → List ℕ → Option Form
form_with (word.Head head) (value ∷ []) = Some (Head head value)
form_with word.Malloc (thread ∷ label ∷ size ∷ []) = Some (Malloc thread label size)
form_with word.Free (thread ∷ label ∷ []) = Some (Free thread label)
form_with word.Move (thread ∷ before ∷ cpu ∷ []) = Some (Move thread before cpu)
form_with word.Release (thread ∷ pages ∷ []) = Some (Release thread pages)
form_with word.Drain (thread ∷ cpu ∷ []) = Some (Drain thread cpu)
form_with word.Resize (thread ∷ cpu ∷ class ∷ cap ∷ []) = Some (Resize thread cpu class cap)
form_with word values = None

-- what a word says with the fields behind it, where their number is right and each is a number in its range
abbrev pub has_fields : Word → List (List ℕ) → Bool
has_fields word fields = length fields == length (ranges_of word)

abbrev pub form_of : Word → List (List ℕ) → Option Form
form_of word fields = option_and_then (form_with word) (numbers_in (ranges_of word) fields)

-- the two rules on the fields behind a word, in their order
abbrev pub read_fields : Word → List (List ℕ) → Result Form LineWhy
read_fields word fields = if has_fields word fields then ok_or (form_of word fields) why.Number else Err why.Fields

-- the numbers of a form are in their ranges
abbrev pub IsInRange : Form → Type 0
IsInRange (Head head value) = IsValueOf head value
IsInRange (Malloc thread label size) = (label < most_labels) × (size ≤ most_size)
IsInRange (Free thread label) = label < most_labels
IsInRange (Move thread before cpu) = (0 < before) × (before ≤ most_before)
IsInRange (Release thread pages) = pages ≤ most_released
IsInRange (Drain thread cpu) = Unit {0}
IsInRange (Resize thread cpu class cap) = cap ≤ most_capacity

-- whether a form is a head's
abbrev pub is_head_form : Form → Bool
is_head_form (Head head value) = true
is_head_form form = false

-- a form that was read with a word: its numbers are in their ranges, and it is a head's where the word is
abbrev pub IsReadAs : Word → Form → Type 0
IsReadAs word form = IsInRange form × (is_head_form form ≡ is_head word)
