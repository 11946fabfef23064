-- Words that are narrowed: each bit with the one behind it, which may be the next word's first.
use Rattle.range_bits.proofs.Common.{cases_lt, nat_tests, bit_at, bit_at-lt, bit_at-zero, bit_at_above, bit_at_and, bit_at_ones, bit_at_or, and_le_l, same_from_bits_below, get_or_past, is_one, longest, row_of}
use Rattle.std.proofs.Common.{◌≡◌, ℕ, zero, suc, ◌+◌, ◌-◌, ◌*◌, ◌/◌, ◌%◌, ◌^◌, ◌<◌, ◌==◌, ◌↔◌, true, cond, nat_eq, List, length, get_or, max, min, sym, ap, ◌∙◌, inl, inr, arith, bit_and, bit_or, add-one, eq-eqb}
use Rattle.std.proofs.lemmas.Nat.Bits.{bit_at_lowest, bit_at-suc, bit_at-pow_same, bit_at-pow_other}
use Rattle.std.proofs.lemmas.Grind.{get_or_default_zero}
use Rattle.range_bits.specs.Words.{IsJoined, IsNarrowed}
use Rattle.range_bits.proofs.RowFacts.{length-row_of, get_or-row_of, marked_in_word}
use Rattle.range_bits.proofs.Narrowed.{none_free, all_used}

-- the first bit of a word, moved to the last
last_bit : (next k : ℕ) → bit_at (next * 9223372036854775808 % 18446744073709551616) k ≡ cond (k == 63) (bit_at next 0) 0
last_bit next k =
    let low : bit_at next 0 ≡ next % 2 = bit_at_lowest next in
    elim (cases_lt 0 (next % 2)) [
      | inl odd ↦
          (let e : next * 9223372036854775808 % 18446744073709551616 ≡ 2 ^ 63 = omega arith in
          rw e (grind (arith, nat_tests, bit_at-pow_same 63, bit_at-pow_other 63 k)))
      | inr even ↦
          (let e : next * 9223372036854775808 % 18446744073709551616 ≡ 0 = omega arith in
          rw e (grind (arith, nat_tests, bit_at-zero k)))
    ]

pub joined_bit : (word next : ℕ) → word < 2 ^ 64 → IsJoined word next (bit_or (bit_or word (word / 2)) (next * 9223372036854775808 % 18446744073709551616))
joined_bit word next fits k small =
    let second : bit_at (word / 2) k ≡ bit_at word (k + 1) = sym (ap (bit_at word) (add-one k) ∙ bit_at-suc word k) in
    let third = last_bit next k in
    let moved : ℕ = next * 9223372036854775808 % 18446744073709551616 in
    let all : bit_at (bit_or (bit_or word (word / 2)) moved) k ≡ max (max (bit_at word k) (bit_at (word / 2) k)) (bit_at moved k) =
    bit_at_or (bit_or word (word / 2)) moved k ∙ ap (λ (b : ℕ). max b (bit_at moved k)) (bit_at_or word (word / 2) k) in
    grind (arith, nat_tests, bit_at-lt word k, bit_at-lt word (k + 1), bit_at-lt next 0, bit_at_above word 64 (k + 1) fits)

-- the bit of a word in a row
in_row : (words : List ℕ) (i j k : ℕ) → k ≡ 64 * i + j → j < 64 → i < length words → get_or (row_of words) k true ≡ is_one (get_or words i 0) j
in_row words i j k e small inside = grind (arith, nat_tests, marked_in_word words i k, get_or-row_of words k true)

-- words that are joined so, each with the next one, are a row that is narrowed
pub narrowed_words : (old new : List ℕ) → length new ≡ length old → ((i : ℕ) → i < length old → IsJoined (get_or old i 0) (get_or old (i + 1) 1) (get_or new i 0)) → IsNarrowed (row_of old) (row_of new)
narrowed_words old new size joined =
    record {
      len = omega (arith, length-row_of old, length-row_of new, size);
      each = λ k.
          let i : ℕ = k / 64 in
          let j : ℕ = k % 64 in
          elim (cases_lt k (64 * length old)) [
            | inl inside ↦ elim (cases_lt (j + 1) 64) [
              | inl one ↦ grind (arith, nat_tests, in_row new i j k, in_row old i j k, in_row old i (j + 1) (k + 1), joined i (omega arith) j)
              | inr last ↦ elim (cases_lt (i + 1) (length old)) [
                | inl more ↦ grind (arith, nat_tests, in_row new i j k, in_row old i j k, in_row old (i + 1) 0 (k + 1), joined i (omega arith) j, get_or_default_zero old (i + 1) 1)
                | inr end ↦ grind (arith, nat_tests, in_row new i j k, in_row old i j k, get_or_past (row_of old) (k + 1) true, length-row_of old, joined i (omega arith) j, get_or_past old (i + 1) 1)
              ]
            ]
            | inr outside ↦ grind (arith, nat_tests, get_or_past (row_of new) k true, get_or_past (row_of old) k true, length-row_of old, length-row_of new)
          ];
    }

-- the same of each of four
pub of_four : (P : ℕ → Type 0) → P 0 → P 1 → P 2 → P 3 → (i : ℕ) → i < 4 → P i
of_four P a b c d zero l = a
of_four P a b c d (suc zero) l = b
of_four P a b c d (suc (suc zero)) l = c
of_four P a b c d (suc (suc (suc zero))) l = d
of_four P a b c d (suc (suc (suc (suc i)))) l = absurd (omega arith)

-- four words are used exactly where all bits of each are 1
pub used_words : (words : List ℕ) → length words ≡ 4 → get_or words 0 0 < 2 ^ 64 → (nat_eq (bit_and (bit_and (bit_and (get_or words 0 0) (get_or words 1 0)) (get_or words 2 0)) (get_or words 3 0)) 18446744073709551615 ≡ true) ↔ (longest (row_of words) ≡ 0)
used_words words size fits =
    let a : ℕ = get_or words 0 0 in
    let b : ℕ = get_or words 1 0 in
    let c : ℕ = get_or words 2 0 in
    let d : ℕ = get_or words 3 0 in
    let bits : (j : ℕ) → bit_at (bit_and (bit_and (bit_and a b) c) d) j ≡ min (min (min (bit_at a j) (bit_at b j)) (bit_at c j)) (bit_at d j) = λ j. grind (arith, bit_at_and) in (
      (λ e.
          let all : bit_and (bit_and (bit_and a b) c) d ≡ 2 ^ 64 - 1 = grind (arith, nat_tests) in
          let ones : (j : ℕ) → j < 64 → bit_at (bit_and (bit_and (bit_and a b) c) d) j ≡ 1 = λ j l. ap (λ (w : ℕ). bit_at w j) all ∙ bit_at_ones 64 j l in
          let each : (i : ℕ) → i < 4 → (j : ℕ) → j < 64 → is_one (get_or words i 0) j ≡ true =
          of_four (λ (i : ℕ). (j : ℕ) → j < 64 → is_one (get_or words i 0) j ≡ true)
          (λ j l. grind (arith, nat_tests, bits j, ones j l, bit_at-lt)) (λ j l. grind (arith, nat_tests, bits j, ones j l, bit_at-lt))
          (λ j l. grind (arith, nat_tests, bits j, ones j l, bit_at-lt)) (λ j l. grind (arith, nat_tests, bits j, ones j l, bit_at-lt)) in
          none_free (row_of words) (λ k l. in_row words (k / 64) (k % 64) k (omega arith) (omega arith) (omega (arith, length-row_of words)) ∙ each (k / 64) (omega (arith, length-row_of words)) (k % 64) (omega arith))),
      (λ none.
          let each : (i j : ℕ) → i < 4 → j < 64 → bit_at (get_or words i 0) j ≡ 1 = λ i j few small. grind (arith, nat_tests, in_row words i j (64 * i + j), all_used (row_of words) (64 * i + j) none, length-row_of words) in
          eq-eqb _ _ (same_from_bits_below 64 (bit_and (bit_and (bit_and a b) c) d) (2 ^ 64 - 1) (omega (arith, and_le_l (bit_and (bit_and a b) c) d, and_le_l (bit_and a b) c, and_le_l a b)) (omega arith) (λ j l. grind (arith, bits j, each 0 j, each 1 j, each 2 j, each 3 j, bit_at_ones 64 j l)))),
    )
