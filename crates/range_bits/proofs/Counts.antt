-- How many places are used, where marked places lie, and rows of free places alone.
use Rattle.std.proofs.Common.{◌≡◌, ℕ, ◌+◌, ◌-◌, ◌*◌, ◌^◌, ◌<◌, ◌≤◌, Bool, false, not, cond, eqb, List, [], ◌∷◌, length, get_or, take, drop, replicate, refl}
use Rattle.std.proofs.Common.{sym, ap, ◌∙◌, arith}
use Rattle.range_bits.proofs.Common.{nat_tests, prefix_len, bit_at, same_lists, length-take, length-take-le, length-replicate, length-drop, get_or-take}
use Rattle.range_bits.proofs.Common.{get_or-drop, get_or-replicate, sum_by-append, sum_by-cons, count_by-le-length, prefix_len-le-length, bit_at-zero}
use Rattle.range_bits.proofs.Common.{bit_at-lt, same_from_bits_below, free_from, used_from, used_count, is_one, row_of}
use Rattle.std.specs.Int.RustNames.{count_ones}
use Rattle.std.specs.Simd.Lanes.{mask_l}
use Rattle.std.proofs.Math.Seq.{take-add}
use Rattle.std.proofs.lemmas.Simd.{mask_l-lt, bit_mask_l, ones-mask_l_cons}
use Rattle.range_bits.proofs.RowFacts.{length-row_of, get_or-row_of, marked_in_word}

-- a stretch of places that pass a test
stretch_inside : (p : Bool → Bool) (row : List Bool) (start n : ℕ) → 1 ≤ n → n ≤ prefix_len p (drop start row) → start + n ≤ length row
stretch_inside p row start n some h = omega (arith, prefix_len-le-length p (drop start row), length-drop start row)

pub free_inside : (row : List Bool) (start n : ℕ) → 1 ≤ n → n ≤ free_from row start → start + n ≤ length row
free_inside row start n = stretch_inside not row start n

pub used_inside : (row : List Bool) (start n : ℕ) → 1 ≤ n → n ≤ used_from row start → start + n ≤ length row
used_inside row start n = stretch_inside (λ used. used) row start n

-- words of zeros stand for free places
pub row_of-zeros : (m : ℕ) → row_of (replicate m 0) ≡ replicate (64 * m) false
row_of-zeros m = grind (arith, nat_tests, same_lists, length-replicate, eqb, get_or-row_of, bit_at-zero, get_or-replicate, length-row_of)

-- the used places before a place, and those of a stretch behind it
pub used_behind : (row : List Bool) (start end : ℕ) → start ≤ end → used_count (take end row) ≡ used_count (take start row) + used_count (take (end - start) (drop start row))
used_behind row start end order =
    let to : start + (end - start) ≡ end = omega arith in
    ap (λ (p : ℕ). used_count (take p row)) (sym to) ∙ ap used_count (take-add start (end - start) row) ∙ sum_by-append (λ used. cond used 1 0) (take start row) (take (end - start) (drop start row))

-- the ones of a number are those of its bits
ones_of_bits : (row : List Bool) → count_ones (mask_l row) ≡ used_count row
unfolding count_ones
ones_of_bits [] = refl
ones_of_bits (used ∷ row) = omega (arith, ones-mask_l_cons used row, ones_of_bits row, sum_by-cons (λ used. cond used 1 0) used row)

bit_of_one : (b : ℕ) → b < 2 → cond {A = ℕ} (eqb b 1) 1 0 ≡ b
bit_of_one b l = grind (arith, nat_tests)

-- the places of a word as far as a place are used where the number of the word's bits as far has a one
pub ones_in_word : (words : List ℕ) (index n to low : ℕ) → index < length words → n ≤ 64 → 64 * index + n ≡ to → low < 2 ^ n → ((k : ℕ) → k < n → bit_at low k ≡ bit_at (get_or words index 0) k) →
    count_ones low + used_count (take (64 * index) (row_of words)) ≡ used_count (take to (row_of words))
ones_in_word words index n to low inside short at fits same =
    let row : List Bool = row_of words in
    let from : ℕ = 64 * index in
    let some : to - from ≡ n = omega arith in
    let part : List Bool = take n (drop from row) in
    let size : length part ≡ n = length-take-le n (drop from row) (omega (arith, length-drop from row, length-row_of words)) in
    let least : mask_l part < 2 ^ n = rw size at (mask_l-lt part) in
    let place : (k : ℕ) → k < n → get_or part k false ≡ is_one (get_or words index 0) k =
    λ k l. let bit : from + k - 64 * index ≡ k = omega arith in get_or-take n (drop from row) k false l ∙ get_or-drop from row k false ∙ get_or-row_of words (from + k) false (omega arith) ∙ marked_in_word words index (from + k) (omega arith) (omega arith) ∙ ap (is_one (get_or words index 0)) bit in
    let bits : low ≡ mask_l part = same_from_bits_below n low (mask_l part) fits least (λ k l.
    let bit : bit_at (mask_l part) k ≡ cond (get_or part k false) 1 0 = bit_mask_l part k in
    same k l ∙ sym (bit ∙ ap (λ (b : Bool). cond b 1 0) (place k l) ∙ bit_of_one (bit_at (get_or words index 0) k) (bit_at-lt (get_or words index 0) k))) in
    let ones : count_ones low ≡ used_count part = ap count_ones bits ∙ ones_of_bits part in
    let behind : used_count (take (to - from) (drop from row)) ≡ used_count part = ap (λ (m : ℕ). used_count (take m (drop from row))) some in
    omega (arith, used_behind row from to (omega arith))

-- a whole word, and how many places can be used as far as its end
pub ones_of_word : (words : List ℕ) (index : ℕ) → index < length words → get_or words index 0 < 2 ^ 64 →
    (count_ones (get_or words index 0) + used_count (take (64 * index) (row_of words)) ≡ used_count (take (64 * (index + 1)) (row_of words))) × (used_count (take (64 * (index + 1)) (row_of words)) ≤ 64 * length words)
ones_of_word words index inside fits = grind (arith, nat_tests, ones_in_word, count_by-le-length, length-take, length-row_of)
