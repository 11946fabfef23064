-- The text of a generated trace.
use Rattle.std.specs.Prelude.{ℕ, List, [], ◌∷◌, ◌++◌, codes, decimal}
use Rattle.std.specs.List.{flat_map}
use Rattle.tc_model.specs.Heads.{head_rule}
use Rattle.trace_reader.specs.declared.form.Form.{Form}
use Rattle.trace_reader.specs.declared.form.Form.TheVariants.{Head, Malloc, Free, Move, Release, Drain, Resize}
use Rattle.trace_gen.specs.Generated.{lines_before}

-- the word with which a line begins, and the numbers behind it
abbrev pub line_word : Form → List ℕ
line_word (Head head value) = (head_rule head).name
line_word (Malloc thread label size) = codes "a"
line_word (Free thread label) = codes "f"
line_word (Move thread before cpu) = codes "p"
line_word (Release thread pages) = codes "r"
line_word (Drain thread cpu) = codes "d"
line_word (Resize thread cpu class cap) = codes "z"

abbrev pub line_numbers : Form → List ℕ
line_numbers (Head head value) = value ∷ []
line_numbers (Malloc thread label size) = thread ∷ label ∷ size ∷ []
line_numbers (Free thread label) = thread ∷ label ∷ []
line_numbers (Move thread before cpu) = thread ∷ before ∷ cpu ∷ []
line_numbers (Release thread pages) = thread ∷ pages ∷ []
line_numbers (Drain thread cpu) = thread ∷ cpu ∷ []
line_numbers (Resize thread cpu class cap) = thread ∷ cpu ∷ class ∷ cap ∷ []

-- a word, numbers each behind a space, and a line feed
abbrev pub line_of : List ℕ → List ℕ → List ℕ
line_of word numbers = word ++ flat_map (λ n. codes " " ++ decimal n) numbers ++ codes "\n"

-- the text of a line
abbrev pub line_text : Form → List ℕ
line_text form = line_of (line_word form) (line_numbers form)

-- the whole text
abbrev pub trace_text : ℕ → ℕ → ℕ → List ℕ
trace_text seed calls threads = flat_map line_text (lines_before seed threads calls)
