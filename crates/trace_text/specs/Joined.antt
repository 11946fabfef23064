-- Texts that are put together from lines, and lines from fields.
use Rattle.std.specs.Prelude.{ℕ, ◌≡◌, ◌≢◌, ◌<◌, ◌≤◌, ◌^◌, List, [], ◌∷◌, ◌++◌, All, Some, decimal}
use Rattle.std.specs.List.{flat_map, join_with_byte}
use Rattle.tc_units.specs.Decimal.{number_of}
use Rattle.trace_text.specs.Lines.{lines_of}

-- a field has no line feed, no carriage return and no space
abbrev pub IsFieldByte : ℕ → Type 0
IsFieldByte b = (b ≢ 10) × (b ≢ 13) × (b ≢ 32)

abbrev pub IsField : List ℕ → Type 0
IsField field = All IsFieldByte field

-- a line has a field at least
abbrev pub IsLine : List (List ℕ) → Type 0
IsLine fields = (fields ≢ []) × All IsField fields

-- the text of a line: its fields with one space between each two, and a line feed
abbrev pub joined_line : List (List ℕ) → List ℕ
joined_line fields = join_with_byte 32 fields ++ 10 ∷ []

-- lines that are put together into a text are cut out of it again
abbrev pub JoinedAreCut : Type 0
JoinedAreCut = (lines : List (List (List ℕ))) → All IsLine lines → lines_of (flat_map joined_line lines) ≡ lines

-- the decimal of a number is a field, and where the number is below 2 ^ 64 it is read again
abbrev pub DecimalsAreRead : Type 0
DecimalsAreRead = (n : ℕ) → IsField (decimal n) × ((most : ℕ) → n ≤ most → n < 2 ^ 64 → number_of most (decimal n) ≡ Some n)
