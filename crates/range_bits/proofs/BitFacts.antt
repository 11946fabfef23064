-- Bits of words: the first one from a bit on, and bits that a mask makes 1 or 0.
use Rattle.std.proofs.Common.{◌≡◌, ℕ, ◌+◌, ◌-◌, ◌*◌, ◌%◌, ◌==◌, add-one, ◌^◌, ◌<◌, ◌≤◌, Bool, true, false, cond, eqb, not, nat_le, nat_lt, ◌&&◌, min, max, sym, ap, ◌∙◌, inl, inr, arith, bit_and, bit_or, w64}
use Rattle.range_bits.proofs.Common.{cases_lt, nat_tests, bit_at_and, bit_at_or, bit_at_not, bit_at-lt, bit_at-zero, bit_at-trailing_zeros, bit_at_mask_inside}
use Rattle.range_bits.proofs.Common.{bit_at_mask_below, bit_at_mask_above, and_le_l, pow_pos, pow-succ', pow-le-pow_right, bit_at, bit_not, trailing_zeros, is_one}
use Rattle.std.specs.Int.Count.{trailing_of_zero}

-- whether a bit is one of those from `low` up to `high`
abbrev pub is_between : ℕ → ℕ → ℕ → Bool
is_between low high k = nat_le low k && nat_lt k high

-- the bits of a mask are those
mask_bit : (low high k : ℕ) → low ≤ high → bit_at (2 ^ high - 2 ^ low) k ≡ cond (is_between low high k) 1 0
mask_bit low high k order = grind (arith, nat_tests, bit_at_mask_inside, bit_at_mask_above, bit_at_mask_below)

or_bit : (b m : ℕ) (inside : Bool) → b < 2 → m ≡ cond inside 1 0 → eqb (max b m) 1 ≡ cond inside true (eqb b 1)
or_bit b m inside small e = grind (arith, nat_tests)

and_not_bit : (b m : ℕ) (inside : Bool) → b < 2 → m ≡ cond inside 1 0 → eqb (min b (1 - m)) 1 ≡ cond inside false (eqb b 1)
and_not_bit b m inside small e = grind (arith, nat_tests)

mask_fits : (low high : ℕ) → high ≤ 64 → 2 ^ high - 2 ^ low < 2 ^ 64
mask_fits low high within = grind (arith, nat_tests, pow-le-pow_right, pow_pos)

-- made 1
pub used_bits : (word low high k : ℕ) → low ≤ high → is_one (bit_or word (2 ^ high - 2 ^ low)) k ≡ cond (is_between low high k) true (is_one word k)
used_bits word low high k order = grind (arith, nat_tests, bit_at_or, or_bit, is_between, bit_at-lt, mask_bit)

-- made 0
pub free_bits : (word low high k : ℕ) → low ≤ high → high ≤ 64 → k < 64 → is_one (bit_and word (bit_not w64 (2 ^ high - 2 ^ low))) k ≡ cond (is_between low high k) false (is_one word k)
free_bits word low high k order within small =
    let mask : ℕ = 2 ^ high - 2 ^ low in
    ap (λ (b : ℕ). eqb b 1) (bit_at_and word (bit_not w64 mask) k ∙ ap (λ (m : ℕ). min (bit_at word k) m) (bit_at_not w64 mask k (mask_fits low high within) small))
    ∙ and_not_bit (bit_at word k) (bit_at mask k) (is_between low high k) (bit_at-lt word k) (mask_bit low high k order)

-- the same of one bit
pub one_between : (b k : ℕ) → is_between b (b + 1) k ≡ (k == b)
one_between b k = grind (arith, nat_tests, cases_lt)

one_mask : (b : ℕ) → b < 64 → 1 * 2 ^ b % 2 ^ 64 ≡ 2 ^ (b + 1) - 2 ^ b
one_mask b small =
    let twice : 2 ^ (b + 1) ≡ 2 * 2 ^ b = ap (λ e. 2 ^ e) (add-one b) ∙ pow-succ' 2 b in
    let most : 2 ^ (b + 1) ≤ 2 ^ 64 = pow-le-pow_right {n = 2} (omega arith) (let l : b + 1 ≤ 64 = omega arith in l) in
    omega (arith, twice, pow_pos b, most)

pub used_bit : (word bit k : ℕ) → bit < 64 → is_one (bit_or word (1 * 2 ^ bit % 2 ^ 64)) k ≡ cond (k == bit) true (is_one word k)
used_bit word bit k small = rw (one_mask bit small) (used_bits word bit (bit + 1) k (omega arith) ∙ ap (λ b. cond b true (is_one word k)) (one_between bit k))

pub free_bit : (word bit k : ℕ) → bit < 64 → k < 64 → is_one (bit_and word (bit_not w64 (1 * 2 ^ bit % 2 ^ 64))) k ≡ cond (k == bit) false (is_one word k)
free_bit word bit k small within =
    rw (one_mask bit small) (free_bits word bit (bit + 1) k (omega arith) (omega arith) within ∙ ap (λ b. cond b false (is_one word k)) (one_between bit k))

-- the first bit from `low` on that is 1, or that is 0
pub record FirstBit (word low : ℕ) (used : Bool) (at : ℕ) : Type 0 where
  pub behind : low ≤ at
  pub within : at ≤ 64
  pub before : (k : ℕ) → low ≤ k → k < at → is_one word k ≡ not used
  pub there : at < 64 → is_one word at ≡ used

-- a bit of a word, by that of the word itself or of the word turned round
pub turned : (word seen k : ℕ) (used b : Bool) → word < 2 ^ 64 → k < 64 → seen ≡ cond used word (bit_not w64 word) → is_one seen k ≡ b → is_one word k ≡ cond b used (not used)
turned word seen k true true fits small e is = ap (λ (s : ℕ). is_one s k) (sym e) ∙ is
turned word seen k true false fits small e is = ap (λ (s : ℕ). is_one s k) (sym e) ∙ is
turned word seen k false b fits small e is =
    let other : bit_at seen k ≡ 1 - bit_at word k = ap (λ (s : ℕ). bit_at s k) e ∙ bit_at_not w64 word k fits small in
    grind (arith, nat_tests)

kept_bit : (seen low k : ℕ) → k < 64 → low ≤ 64 → bit_at (bit_and seen (2 ^ 64 - 2 ^ low)) k ≡ min (bit_at seen k) (cond (is_between low 64 k) 1 0)
kept_bit seen low k small order = bit_at_and seen (2 ^ 64 - 2 ^ low) k ∙ ap (λ (m : ℕ). min (bit_at seen k) m) (mask_bit low 64 k order)

kept_inside : (seen low k : ℕ) → k < 64 → low ≤ k → bit_at (bit_and seen (2 ^ 64 - 2 ^ low)) k ≡ bit_at seen k
kept_inside seen low k small from = grind (arith, nat_tests, bit_at-lt, kept_bit)

kept_below : (seen low k : ℕ) → k < low → low ≤ 64 → bit_at (bit_and seen (2 ^ 64 - 2 ^ low)) k ≡ 0
kept_below seen low k below order = grind (arith, nat_tests, kept_bit)

first_one : (seen low kept : ℕ) → seen < 2 ^ 64 → low < 64 → kept ≡ bit_and seen (2 ^ 64 - 2 ^ low) → FirstBit seen low true (trailing_zeros w64 kept)
first_one seen low kept fits small e =
    elim (cases_lt 0 kept) [
      | inl some ↦
          (let size : kept < 2 ^ 64 = omega (arith, and_le_l seen (2 ^ 64 - 2 ^ low)) in
          let found = bit_at-trailing_zeros w64 kept some size in
          grind (arith, nat_tests, cases_lt, kept_below, kept_inside))
      | inr none ↦
          (let zero_kept : kept ≡ 0 = omega arith in
          let end : trailing_zeros w64 kept ≡ 64 = ap (trailing_zeros w64) zero_kept ∙ trailing_of_zero 64 in
          record {
            behind = omega arith;
            within = omega arith;
            before = λ k from before. ap (λ (b : ℕ). eqb b 1) (sym (kept_inside seen low k (omega arith) from) ∙ ap (λ (n : ℕ). bit_at n k) (sym e ∙ zero_kept) ∙ bit_at-zero k);
            there = λ inside. absurd (omega arith);
          })
    ]

-- found in the word itself, or in the word turned round
pub found_bit : (word seen low mask : ℕ) (used : Bool) → word < 2 ^ 64 → seen < 2 ^ 64 → low < 64 → mask ≡ 2 ^ 64 - 2 ^ low → seen ≡ cond used word (bit_not w64 word) → FirstBit word low used (trailing_zeros w64 (bit_and seen mask))
found_bit word seen low mask used fits also small m e =
    let one = first_one seen low (bit_and seen mask) also small (ap (bit_and seen) m) in
    record {
      behind = one.behind;
      within = one.within;
      before = λ k from before. turned word seen k used false fits (omega (arith, one.within)) e (one.before k from before);
      there = λ inside. turned word seen _ used true fits inside e (one.there inside);
    }
