-- Rows and the words that stand for them: each place, and the next used or free one.
use Rattle.std.proofs.Common.{◌≡◌, ℕ, ◌+◌, ◌-◌, ◌*◌, ◌<◌, ◌≤◌, Bool, true, false, not, List, length, get_or, sym, ap, ◌∙◌, arith}
use Rattle.range_bits.proofs.Common.{nat_tests, is_one, is_marked, IsNext, IsNextRange}
use Rattle.std.proofs.lemmas.List.FromFn.{length-map-range_with_len, get_or-map-range_with_len}
use Rattle.range_bits.specs.Words.{row_of}
use Rattle.range_bits.proofs.BitFacts.{FirstBit}

pub length-row_of : (words : List ℕ) → length (row_of words) ≡ 64 * length words
unfolding row_of
length-row_of words = length-map-range_with_len (is_marked words) 0 (64 * length words)

pub places_of : (words : List ℕ) (row : List Bool) → row_of words ≡ row → length row ≡ 64 * length words
places_of words row e = ap length (sym e) ∙ length-row_of words

pub get_or-row_of : (words : List ℕ) (k : ℕ) (d : Bool) → k < 64 * length words → get_or (row_of words) k d ≡ is_marked words k
unfolding row_of
get_or-row_of words k d inside = get_or-map-range_with_len (is_marked words) 0 (64 * length words) k k d inside (omega arith)

-- a place's word and bit
pub marked_in_word : (words : List ℕ) (index k : ℕ) → 64 * index ≤ k → k < 64 * index + 64 → is_marked words k ≡ is_one (get_or words index 0) (k - 64 * index)
marked_in_word words index k from to = grind (arith, nat_tests)

-- all places from a place on, as far as another one, are in the other state
pub record Skipped (words : List ℕ) (from : ℕ) (used : Bool) (place : ℕ) : Type 0 where
  pub behind : from ≤ place
  pub before : (k : ℕ) → from ≤ k → k < place → is_marked words k ≡ not used

pub skip_in_word : (words : List ℕ) (from index low at to : ℕ) (used : Bool) → Skipped words from used (64 * index + low) → FirstBit (get_or words index 0) low used at → 64 * index + at ≡ to → Skipped words from used to
skip_in_word words from index low at to used so_far found e = grind (arith, nat_tests, marked_in_word)

pub next_found : (words : List ℕ) (from index low at to : ℕ) (used : Bool) → Skipped words from used to → FirstBit (get_or words index 0) low used at → 64 * index + at ≡ to → at < 64 → index < length words → IsNext (row_of words) from used to
next_found words from index low at to used so_far found e inside row = grind (arith, nat_tests, marked_in_word, get_or-row_of, length-row_of)

pub next_nowhere : (words : List ℕ) (from to : ℕ) (used : Bool) → Skipped words from used to → 64 * length words ≡ to → IsNext (row_of words) from used to
next_nowhere words from to used so_far e = grind (arith, nat_tests, get_or-row_of, length-row_of)

-- the next free place, and the next used one behind it, are a range's ends
pub next_range_is : (row : List Bool) (from start end : ℕ) → from < length row → IsNext row from false start → IsNext row start true end → IsNextRange row from start (end - start)
next_range_is row from start end inside first second = grind (arith, nat_tests)
