-- Where lines and fields stand in their text.
use Rattle.std.specs.Prelude.{ℕ, ◌≡◌, ◌<◌, ◌≤◌, ◌⊎◌, List, [], ◌∷◌, length, nat_le, slice_range, if◌then◌else◌}
use Rattle.std.specs.List.{join_with_byte}
use Rattle.trace_text.specs.Lines.{fields_of}

-- what is left of a text: where the next line begins, how many lines were given, and the lines that are left
pub record TextLeft : Type 0 where
  pub text : List ℕ
  pub start : ℕ
  pub given : ℕ
  pub lines : List (List (List ℕ))

-- what is left of a line: its text and number, where its next field begins, where it ends, and the fields that are left
pub record LineLeft : Type 0 where
  pub text : List ℕ
  pub line : ℕ
  pub start : ℕ
  pub end : ℕ
  pub fields : List (List ℕ)

-- the fields from a place on to the end of their line; the last field of a line leaves none
abbrev pub fields_between : List ℕ → ℕ → ℕ → List (List ℕ)
fields_between text start end = if nat_le start end then fields_of (slice_range text start end) else []

-- a line feed ends a line, behind a carriage return or not, and the last line may lack the line feed
abbrev pub EndsLine : List ℕ → Type 0
EndsLine ending = (ending ≡ 10 ∷ []) ⊎ (ending ≡ 13 ∷ 10 ∷ [])

abbrev pub EndsLastLine : List ℕ → Type 0
EndsLastLine ending = (ending ≡ []) ⊎ (ending ≡ 13 ∷ [])

-- A line begins where the rest of the text began, it is its fields with one space between each two, and nothing but
-- what ends it stands between it and the new rest.
pub record TakesLine (before : TextLeft) (line : LineLeft) (after : TextLeft) : Type 0 where
  pub start : line.start ≡ before.start
  pub whole : slice_range before.text line.start line.end ≡ join_with_byte 32 line.fields
  pub ending : EndsLine (slice_range before.text line.end after.start) ⊎ (EndsLastLine (slice_range before.text line.end after.start) × (after.start ≡ length before.text))
  pub rises : before.start < after.start
  pub inside : line.end ≤ after.start
  pub within : after.start ≤ length before.text
