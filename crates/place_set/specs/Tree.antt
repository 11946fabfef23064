-- Levels of words, the lowest first: a place of a level is in the set where a place of its word below is.
use Rattle.std.specs.Prelude.{◌≡◌, ℕ, ◌+◌, ◌*◌, ◌/◌, Bool, false, List, [], ◌∷◌, length}
use Rattle.range_bits.specs.Words.{is_marked, row_of}
use Rattle.place_set.specs.Places.{HasAny}
use Rattle.place_set.specs.declared.level.Level.{Level}

-- whether a place of the lowest level is in the set, how many places it has, and all of them in order
abbrev pub has_at : List Level → ℕ → Bool
has_at [] place = false
has_at (own ∷ above) place = is_marked own.words.items place

abbrev pub places_of : List Level → ℕ
places_of [] = 0
places_of (own ∷ above) = 64 * length own.words.items

abbrev pub row_at : List Level → List Bool
row_at [] = []
row_at (own ∷ above) = row_of own.words.items

-- a level above another one has a place for each of its words, and tells of each whether a place of it is in the set
pub record IsAbove (own above : List ℕ) : Type 0 where
  pub size : length above ≡ (length own + 63) / 64
  pub tells : (index : ℕ) → HasAny (is_marked own) index (is_marked above index)

-- each level stands above the one before it, and the last has one word
abbrev pub IsTree : List Level → Type 0
IsTree [] = Unit {0}
IsTree (own ∷ []) = length own.words.items ≡ 1
IsTree (own ∷ (above ∷ rest)) = IsAbove own.words.items above.words.items × IsTree (above ∷ rest)
