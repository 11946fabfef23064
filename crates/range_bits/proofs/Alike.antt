-- Words whose places are all used, or all free.
use Rattle.range_bits.proofs.Common.{cases_Bool, nat_tests, bit_at-lt, bit_at-zero, bit_at_ones, count_none, get_or-le-sum_by, same_from_bits_below, used_count, row_of}
use Rattle.std.proofs.Common.{◌≡◌, ℕ, ◌+◌, ◌-◌, ◌*◌, ◌/◌, ◌%◌, ◌^◌, ◌<◌, Bool, true, false, not, cond, List, length, get_or, count_by, arith}
use Rattle.range_bits.proofs.RowFacts.{length-row_of, get_or-row_of, marked_in_word}
use Rattle.range_bits.proofs.Stretches.{used_and_free}

-- the places of such words are counted
pub all_alike : (words : List ℕ) (used : Bool) → ((i : ℕ) → i < length words → get_or words i 0 ≡ cond used 18446744073709551615 0) → used_count (row_of words) ≡ cond used (64 * length words) 0
all_alike words true same =
    let none = count_none not (row_of words) (λ k d l. grind (arith, nat_tests, get_or-row_of words k d, same (k / 64), bit_at_ones 64 (k % 64), length-row_of words)) in
    omega (arith, none, used_and_free (row_of words), length-row_of words)
all_alike words false same = count_none (λ used. used) (row_of words) (λ k d l. grind (arith, nat_tests, get_or-row_of words k d, same (k / 64), bit_at-zero (k % 64), length-row_of words))

-- and where they are counted so, the words are such
pub each_alike : (words : List ℕ) (used : Bool) (i : ℕ) → used_count (row_of words) ≡ cond used (64 * length words) 0 → i < length words → get_or words i 0 < 2 ^ 64 → get_or words i 0 ≡ cond used 18446744073709551615 0
each_alike words true i count inside fits =
    let bits : (j : ℕ) → j < 64 → get_or (row_of words) (64 * i + j) true ≡ true = λ j l. let none : count_by not (row_of words) ≡ 0 = omega (arith, used_and_free (row_of words), length-row_of words) in grind (arith, nat_tests, cases_Bool, get_or-le-sum_by, length-row_of words) in
    same_from_bits_below 64 (get_or words i 0) (2 ^ 64 - 1) fits (omega arith) (λ j l. grind (arith, nat_tests, bits j l, get_or-row_of words (64 * i + j) true, marked_in_word words i (64 * i + j), bit_at_ones 64 j l))
each_alike words false i count inside fits =
    let bits : (j : ℕ) → j < 64 → get_or (row_of words) (64 * i + j) true ≡ false = λ j l. grind (arith, nat_tests, cases_Bool, get_or-le-sum_by, length-row_of words) in
    same_from_bits_below 64 (get_or words i 0) 0 fits (omega arith) (λ j l. grind (arith, nat_tests, bits j l, get_or-row_of words (64 * i + j) true, marked_in_word words i (64 * i + j), bit_at-zero j, bit_at-lt (get_or words i 0) j))
