-- Places that are made used or free, a word at a time.
use Rattle.range_bits.proofs.Common.{common_steps, cases_lt, nat_tests, same_lists, ext_get_or, get_or-set_same, get_or-set_other, get_or_append_left}
use Rattle.range_bits.proofs.Common.{get_or-append_right, length-take-le, length-replicate, length-drop, length-append, get_or-take, get_or-drop}
use Rattle.range_bits.proofs.Common.{get_or-replicate, with_places, is_one, is_marked, row_of}
use Rattle.std.proofs.Common.{◌≡◌, ◌≢◌, ℕ, ◌+◌, ◌-◌, ◌*◌, ◌/◌, ◌%◌, ◌<◌, ◌≤◌, Bool, true, false, cond, List, ◌++◌, length, get_or, set, take, drop, replicate, min, sym, ap, inl, inr, arith}
use Rattle.range_bits.proofs.BitFacts.{is_between}
use Rattle.range_bits.proofs.RowFacts.{length-row_of, get_or-row_of, marked_in_word}

-- the places from `start` up to `to` are in the state `used`, and all others as before
pub record Placed (old words : List ℕ) (start to : ℕ) (used : Bool) : Type 0 where
  pub each : (p : ℕ) → is_marked words p ≡ cond (is_between start to p) used (is_marked old p)

outside_above : (start to p : ℕ) → to ≤ p → is_between start to p ≡ false
outside_above start to p l = grind (arith, nat_tests)

outside_all : (start to p : ℕ) → to ≤ start → is_between start to p ≡ false
outside_all start to p none = grind (arith, nat_tests)

pub placed_none : (words : List ℕ) (start to : ℕ) (used : Bool) → to ≤ start → Placed words words start to used
placed_none words start to used none = record { each = λ p. sym (ap (λ (b : Bool). cond b used (is_marked words p)) (outside_all start to p none)) }

-- a test by a place in a word is the test by the place in the row
same_test : (base low high start to k p : ℕ) → base + k ≡ p → low ≡ start - base → high ≡ min (to - base) 64 → k < 64 → base < to → is_between low high k ≡ is_between start (min to (base + 64)) p
same_test base low high start to k p at l h small some = grind (arith, nat_tests)

-- a place before a word passes the test as far as the word's begin or end alike
test_below : (base start to p : ℕ) → p < base → is_between start (min to base) p ≡ is_between start (min to (base + 64)) p
test_below base start to p l = grind (arith, nat_tests)

other_word : (words : List ℕ) (index word p : ℕ) → p / 64 ≢ index → is_marked (set words index word) p ≡ is_marked words p
other_word words index word p other = ap (λ (w : ℕ). is_one w (p % 64)) (get_or-set_other words index (p / 64) word 0 other)

pub placed_word : (old words : List ℕ) (start to index low high word : ℕ) (used : Bool) → index < length words → 64 * index < to → low ≡ start - 64 * index → high ≡ min (to - 64 * index) 64 → ((k : ℕ) → k < 64 → is_one word k ≡ cond (is_between low high k) used (is_one (get_or words index 0) k)) → Placed old words start (min to (64 * index)) used → Placed old (set words index word) start (min to (64 * index + 64)) used
placed_word old words start to index low high word used row some l h made so_far =
    let base : ℕ = 64 * index in
    record {
      each = λ p.
          elim (cases_lt p base) [
            | inl below ↦ grind (arith, other_word words index word p, so_far.each p, test_below base start to p below)
            | inr from ↦ elim (cases_lt p (base + 64)) [
              | inl inside ↦ grind (arith, nat_tests, common_steps, marked_in_word, outside_above, get_or-set_same, is_between, same_test)
              | inr past ↦
                  grind (arith, nat_tests, other_word, is_marked, outside_above)
            ]
          ];
    }

-- each place of a row where n places are made used or free
module _ (row : List Bool) (start n : ℕ) (used : Bool) (inside : start + n ≤ length row) where
  pub length-with_places : length (with_places row start n used) ≡ length row
  length-with_places = omega (arith, length-append (take start row ++ replicate n used) (drop (start + n) row), length-append (take start row) (replicate n used), length-take-le start row (omega arith), length-replicate n used, length-drop (start + n) row)

  front_size : length (take start row ++ replicate n used) ≡ start + n
  front_size = omega (arith, length-append (take start row) (replicate n used), length-take-le start row (omega arith), length-replicate n used)

  pub place_before : (k : ℕ) (d : Bool) → k < start → get_or (with_places row start n used) k d ≡ get_or row k d
  place_before k d l = grind (arith, nat_tests, front_size, get_or-take, get_or_append_left, length-take-le)

  pub place_in : (k : ℕ) (d : Bool) → start ≤ k → k < start + n → get_or (with_places row start n used) k d ≡ used
  place_in k d from l = grind (arith, nat_tests, get_or-append_right, front_size, get_or-replicate, get_or_append_left, length-take-le)

  pub place_behind : (k : ℕ) (d : Bool) → start + n ≤ k → get_or (with_places row start n used) k d ≡ get_or row k d
  place_behind k d from = grind (arith, nat_tests, get_or-drop, front_size, get_or-append_right)

pub get_or-with_places : (row : List Bool) (start n : ℕ) (used : Bool) (k : ℕ) (d : Bool) → start + n ≤ length row → get_or (with_places row start n used) k d ≡ cond (is_between start (start + n) k) used (get_or row k d)
get_or-with_places row start n used k d inside = grind (arith, nat_tests, place_behind, place_in, place_before)

-- places that were made used or free before, and places that are so
pub placed_again : (row : List Bool) (low m start n : ℕ) (a b : Bool) → start ≤ low → low + m ≤ start + n → start + n ≤ length row → with_places (with_places row low m a) start n b ≡ with_places row start n b
placed_again row low m start n a b from to inside = grind (arith, nat_tests, get_or-with_places, same_lists, length-with_places, is_between)

pub placed_already : (row : List Bool) (start n : ℕ) (used : Bool) → start + n ≤ length row → ((k : ℕ) → start ≤ k → k < start + n → get_or row k true ≡ used) → with_places row start n used ≡ row
placed_already row start n used inside same = grind (arith, nat_tests, get_or-with_places, ext_get_or true (with_places row start n used) row, length-with_places, is_between)

pub placed_all : (old words : List ℕ) (start to : ℕ) (used : Bool) → start ≤ to → to ≤ 64 * length old → length words ≡ length old → Placed old words start to used → row_of words ≡ with_places (row_of old) start (to - start) used
placed_all old words start to used order inside size placed =
    grind (arith, nat_tests, get_or-with_places, same_lists, length-with_places, get_or-row_of, length-row_of, is_between)
