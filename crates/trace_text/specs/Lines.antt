-- The lines of a text, and the fields of a line.
use Rattle.std.specs.Prelude.{ℕ, ◌-◌, Bool, ◌==◌, List, [], ◌∷◌, length, take, map, slice_index, if◌then◌else◌}
use Rattle.std.specs.List.{slice_split}

-- whether a byte is a line feed, and whether it is a space
abbrev pub is_line_feed : ℕ → Bool
is_line_feed b = b == 10

abbrev pub is_space : ℕ → Bool
is_space b = b == 32

-- the parts without an empty one that stands last: what stands behind the last line feed is a line only where there is
-- something
abbrev pub without_last_empty : List (List ℕ) → List (List ℕ)
without_last_empty [] = []
without_last_empty (x ∷ []) = if length x == 0 then [] else x ∷ []
without_last_empty (x ∷ y ∷ more) = x ∷ without_last_empty (y ∷ more)

-- a line without the carriage return that is its last byte
abbrev pub without_return : List ℕ → List ℕ
without_return line = if slice_index line (length line - 1) == 13 then take (length line - 1) line else line

-- the fields of a line are separated by one space each, so two spaces enclose an empty field
abbrev pub fields_of : List ℕ → List (List ℕ)
fields_of line = slice_split is_space line

-- the lines of a text, each as its fields: a line ends before a line feed, and the last one may lack it
abbrev pub lines_of : List ℕ → List (List (List ℕ))
lines_of text = map (λ line. fields_of (without_return line)) (without_last_empty (slice_split is_line_feed text))
