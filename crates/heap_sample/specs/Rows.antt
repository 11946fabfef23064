-- The rows of a profile: how many live samples there are of each length, and what they stand for.
use Rattle.std.specs.Prelude.{◌≡◌, ℕ, ◌<◌, ◌≤◌, ◌==◌, List, [], ◌∷◌, length, map, slice_index_or, All, AllPairs, sum_by, count_by, if◌then◌else◌}
use Rattle.tc_units.specs.Sorted.{with_item, without_key}
use Rattle.heap_sample.specs.declared.sample.Sample.{Sample}
use Rattle.heap_sample.specs.declared.sample.ProfileRow.{ProfileRow}

-- the live samples of a length, and what they stand for
abbrev pub count_of : ℕ → List (ℕ × Sample) → ℕ
count_of len live = count_by (λ s. s.1.len == len) live

abbrev pub bytes_of : ℕ → List (ℕ × Sample) → ℕ
bytes_of len live = sum_by (λ s. if s.1.len == len then s.1.weight else 0) live

-- the lengths that live samples have, each once, by rising length
abbrev pub lengths_of : List (ℕ × Sample) → List ℕ
lengths_of [] = []
lengths_of (s ∷ live) = with_item (λ len. len) s.1.len (without_key (λ len. len) s.1.len (lengths_of live))

-- a row for each of these lengths, with its live samples and what they stand for
abbrev pub row_of : List (ℕ × Sample) → ℕ → ProfileRow
row_of live len = record { len = len; blocks = count_of len live; bytes = bytes_of len live }

abbrev pub rows_of : List (ℕ × Sample) → List ProfileRow
rows_of live = map (row_of live) (lengths_of live)

-- what rows have at a length
abbrev pub blocks_at : ℕ → List ProfileRow → ℕ
blocks_at len rows = sum_by (λ r. if r.len == len then r.blocks else 0) rows

abbrev pub bytes_at : ℕ → List ProfileRow → ℕ
bytes_at len rows = sum_by (λ r. if r.len == len then r.bytes else 0) rows

-- rows stand by rising length, and each has a sample
pub record AreRows (rows : List ProfileRow) : Type 0 where
  pub rising : AllPairs (λ a b. a.len < b.len) rows
  pub some : All (λ r. 0 < r.blocks) rows

-- rows have of each length what the live samples have
pub record CountSamples (live : List (ℕ × Sample)) (rows : List ProfileRow) : Type 0 where
  pub blocks : (len : ℕ) → blocks_at len rows ≡ count_of len live
  pub bytes : (len : ℕ) → bytes_at len rows ≡ bytes_of len live

-- The rows of live samples: one for each length that has any, by rising length.
pub record IsRowsOf (live : List (ℕ × Sample)) (rows : List ProfileRow) : Type 0 where
  pub are : AreRows rows
  pub counts : CountSamples live rows

-- all rows before a place are of lesser lengths than one, and none from there on is
pub record IsPlaceOf (rows : List ProfileRow) (len : ℕ) (place : ℕ) : Type 0 where
  pub within : place ≤ length rows
  pub before : (k : ℕ) (d : ProfileRow) → k < place → (slice_index_or rows k d).len < len
  pub behind : (k : ℕ) (d : ProfileRow) → place ≤ k → k < length rows → len ≤ (slice_index_or rows k d).len

-- the row at a place is of a length
pub record HasRow (rows : List ProfileRow) (place len : ℕ) : Type 0 where
  pub inside : place < length rows
  pub here : (d : ProfileRow) → (slice_index_or rows place d).len ≡ len

-- the row at a place is that of a length
pub record IsRowAt (rows : List ProfileRow) (len place : ℕ) : Type 0 where
  pub inside : place < length rows
  pub here : (d : ProfileRow) → (slice_index_or rows place d).len ≡ len
  pub blocks : (d : ProfileRow) → blocks_at len rows ≡ (slice_index_or rows place d).blocks
  pub bytes : (d : ProfileRow) → bytes_at len rows ≡ (slice_index_or rows place d).bytes
