-- Rows of places as words of 64 bits: a place is used where its bit is 1.
use Rattle.std.specs.Prelude.{◌≡◌, ℕ, ◌+◌, ◌*◌, ◌/◌, ◌%◌, ◌<◌, ◌≤◌, Bool, true, false, not, ◌==◌, ◌||◌, List, length, map, slice_index, if◌then◌else◌}
use Rattle.std.specs.List.{range_with_len, slice_index_or}
use Rattle.std.specs.Int.{bit_at}

-- whether a bit of a word is 1
abbrev pub is_one : ℕ → ℕ → Bool
is_one word bit = bit_at word bit == 1

-- whether a place is used, by bit p mod 64 of word p / 64
abbrev pub is_marked : List ℕ → ℕ → Bool
is_marked words place = is_one (slice_index words (place / 64)) (place % 64)

-- the row that words stand for
unfoldable pub row_of : List ℕ → List Bool
row_of words = map (is_marked words) (range_with_len 0 (64 * length words))

-- the first place from a place on that is used, or that is free; the row's length where there is none
pub record IsNext (row : List Bool) (from : ℕ) (used : Bool) (at : ℕ) : Type 0 where
  pub behind : from ≤ at
  pub within : at ≤ length row
  pub before : (k : ℕ) → from ≤ k → k < at → slice_index_or row k true ≡ not used
  pub there : at < length row → slice_index_or row at true ≡ used

-- the first maximal free range from a place on; it is empty at the row's end alone
pub record IsNextRange (row : List Bool) (from start len : ℕ) : Type 0 where
  pub behind : from ≤ start
  pub within : start + len ≤ length row
  pub rises : from < start + len
  pub used : (k : ℕ) → from ≤ k → k < start → slice_index_or row k true ≡ true
  pub free : (k : ℕ) → start ≤ k → k < start + len → slice_index_or row k true ≡ false
  pub end : start + len < length row → slice_index_or row (start + len) true ≡ true

-- a word with a 0 for each bit of a word that is 0 with the bit behind it; behind the last one stands the next word's first
abbrev pub IsJoined : ℕ → ℕ → ℕ → Type 0
IsJoined word next both = (k : ℕ) → k < 64 → is_one both k ≡ (is_one word k || (if k == 63 then is_one next 0 else is_one word (k + 1)))

-- a row in which those places are free that are free in another one, with the place behind them
pub record IsNarrowed (old new : List Bool) : Type 0 where
  pub len : length new ≡ length old
  pub each : (k : ℕ) → slice_index_or new k true ≡ (slice_index_or old k true || slice_index_or old (k + 1) true)
