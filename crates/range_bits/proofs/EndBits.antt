-- Where the last bit below a bit ends that is 1, or that is 0, and the same of places of a row.
use Rattle.std.proofs.Common.{◌≡◌, ℕ, suc, ◌+◌, ◌-◌, ◌*◌, ◌/◌, ◌^◌, ◌<◌, ◌≤◌, Bool, true, false, not, cond, List, length, get_or, ap, ◌∙◌, inl, inr, arith}
use Rattle.std.proofs.Common.{bit_and, w64}
use Rattle.range_bits.proofs.Common.{nat_tests, cases_lt, and_le_r, pow_pos, bit_at_and, bit_at-lt, bit_at_ones, bit_at_ones_above, bit_at_above}
use Rattle.range_bits.proofs.Common.{bit_at_cat_high, ones_shr, pow-le-pow_right, pow-succ', bit_at, bit_not, leading_zeros, is_one, is_marked, row_of, IsEnd}
use Rattle.std.specs.Int.Count.{leading_of_zero, leading_top}
use Rattle.range_bits.proofs.BitFacts.{turned}
use Rattle.range_bits.proofs.RowFacts.{length-row_of, get_or-row_of, marked_in_word}

-- where the last bit below `high` ends that is 1, or that is 0
pub record EndBit (word high : ℕ) (used : Bool) (end : ℕ) : Type 0 where
  pub within : end ≤ high
  pub behind : (k : ℕ) → end ≤ k → k < high → is_one word k ≡ not used
  pub there : 0 < end → is_one word (end - 1) ≡ used

kept_low : (seen high k : ℕ) → k < high → bit_at (bit_and seen (2 ^ high - 1)) k ≡ bit_at seen k
kept_low seen high k low = grind (arith, nat_tests, bit_at_and, bit_at_ones, bit_at-lt)

kept_high : (seen high k : ℕ) → high ≤ k → bit_at (bit_and seen (2 ^ high - 1)) k ≡ 0
kept_high seen high k above = grind (arith, nat_tests, bit_at_and, bit_at_ones_above)

-- the greatest bit of a number between two powers
top_bit : (n j : ℕ) → 2 ^ j ≤ n → n < 2 ^ suc j → bit_at n j ≡ 1
top_bit n j low high = grind (arith, nat_tests, bit_at_cat_high, pow-succ')

end_one : (seen high kept : ℕ) → high ≤ 64 → kept ≡ bit_and seen (2 ^ high - 1) → EndBit seen high true (64 - leading_zeros w64 kept)
end_one seen high kept small e =
    let at = λ (k : ℕ). ap (λ (n : ℕ). bit_at n k) e in
    elim (cases_lt 0 kept) [
      | inr none ↦
          (let zero_kept : kept ≡ 0 = omega arith in
          let all : leading_zeros w64 kept ≡ 64 = ap (leading_zeros w64) zero_kept ∙ leading_of_zero 64 in
          grind (arith, nat_tests, kept_low, bit_at, bit_at_above))
      | inl some ↦
          (let most : 2 ^ high ≤ 2 ^ 64 = pow-le-pow_right (omega arith) small in
          let positive : 0 < 2 ^ high = pow_pos high in
          let size : kept < 2 ^ 64 = omega (arith, and_le_r seen (2 ^ high - 1)) in
          let top = leading_top 64 kept some size in
          grind (arith, nat_tests, top_bit, cases_lt, kept_high, kept_low, bit_at_above))
    ]

-- found in the word itself, or in the word turned round
pub found_end : (word seen high mask : ℕ) (used : Bool) → word < 2 ^ 64 → high ≤ 64 → mask ≡ (2 ^ 64 - 1) / 2 ^ (64 - high) → seen ≡ cond used word (bit_not w64 word) → EndBit word high used (64 - leading_zeros w64 (bit_and seen mask))
found_end word seen high mask used fits small m e =
    let low : mask ≡ 2 ^ high - 1 = m ∙ ones_shr 64 (64 - high) (omega arith) ∙ ap (λ (n : ℕ). 2 ^ n - 1) (omega arith) in
    let one = end_one seen high (bit_and seen mask) small (ap (bit_and seen) low) in
    record {
      within = one.within;
      behind = λ k from under. turned word seen k used false fits (omega arith) e (one.behind k from under);
      there = λ some. turned word seen _ used true fits (omega (arith, one.within)) e (one.there some);
    }

-- an end in a word is the row's, where no place behind the word's part is in that state
pub end_in_row : (words : List ℕ) (before index end bit : ℕ) (used : Bool) → before ≤ 64 * length words → end ≤ before → 64 * index < end → end ≤ 64 * index + 64 → ((k : ℕ) → end ≤ k → k < before → is_marked words k ≡ not used) → EndBit (get_or words index 0) (end - 64 * index) used bit → 0 < bit → IsEnd (row_of words) before used (64 * index + bit)
end_in_row words before index end bit used inside order low high behind found some = grind (arith, nat_tests, marked_in_word, get_or-row_of, length-row_of)

pub none_in_word : (words : List ℕ) (index end : ℕ) (used : Bool) → 64 * index < end → end ≤ 64 * index + 64 → EndBit (get_or words index 0) (end - 64 * index) used 0 → (k : ℕ) → 64 * index ≤ k → k < end → is_marked words k ≡ not used
none_in_word words index end used low high found k from to = marked_in_word words index k from (omega arith) ∙ found.behind (k - 64 * index) (omega arith) (omega arith)

pub end_nowhere : (words : List ℕ) (before : ℕ) (used : Bool) → before ≤ 64 * length words → ((k : ℕ) → k < before → is_marked words k ≡ not used) → IsEnd (row_of words) before used 0
end_nowhere words before used inside behind = grind (arith, nat_tests, get_or-row_of, length-row_of)
