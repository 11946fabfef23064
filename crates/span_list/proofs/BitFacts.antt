-- Words of bits as a list of truth values: a new list, one bit written, and the first bit that is clear.
use Rattle.std.proofs.Common.{◌≡◌, ℕ, ◌+◌, ◌-◌, ◌*◌, ◌/◌, ◌%◌, ◌^◌, ◌<◌, ◌≤◌, ◌≢◌, Bool, true, false}
use Rattle.std.proofs.Common.{◌==◌, List, length, get_or, set, replicate, position, Some, None, cond, sym, ◌∙◌, ap, subst, inl, inr, arith}
use Rattle.std.specs.List.{position_or_len}
use Rattle.std.specs.Int.{bit_at, bit_not, w64, trailing_ones}
use Rattle.std.specs.Int.RustNames.{bit_or}
use lib.Bits.{bit_and}
use mir.Val.{bits}
use Rattle.std.proofs.lemmas.List.{get_or-set_same, get_or-set_other, get_or-replicate, get_or_past, length-set, length-replicate}
use Rattle.std.proofs.lemmas.List.FromFn.{length-map-range_with_len, get_or-map-range_with_len, fill_by_all}
use Rattle.std.proofs.lemmas.List.Sums.{position_or_len_is}
use Rattle.std.proofs.lemmas.Nat.{mod_below}
use Rattle.std.proofs.lemmas.Nat.Bits.{bit_at-zero, bit_at_ones, bit_at-trailing_ones, bit_at_clear_same, bit_at_clear_other, bit_at_set_same, bit_at_set_other}
use Rattle.std.proofs.lemmas.Bool.{cases_eq, lt-ltb}
use Rattle.std.proofs.lemmas.Bool.Decides.{nat_tests}
use Rattle.span_list.specs.Bits.{is_clear, clear_bits}

pub length-clear_bits : (words : List ℕ) (n : ℕ) → length (clear_bits words n) ≡ n
length-clear_bits words n = length-map-range_with_len (is_clear words) 0 n

pub get_or-clear_bits : (words : List ℕ) (n i : ℕ) (d : Bool) → i < n → get_or (clear_bits words n) i d ≡ is_clear words i
get_or-clear_bits words n i d less = get_or-map-range_with_len (is_clear words) 0 n i i d less (omega arith)

zero_word : (m i : ℕ) → get_or (replicate {A = ℕ} m 0) i 0 ≡ 0
zero_word m i = grind (arith, nat_tests, get_or-replicate, get_or_past, length-replicate)

-- words of 0 have no bit set
pub clear_bits-zeros : (m n : ℕ) → clear_bits (replicate m 0) n ≡ replicate n true
clear_bits-zeros m n =
    sym (fill_by_all (is_clear (replicate m 0)) (replicate n true) n true (length-replicate n true) (λ k less. get_or-replicate n k true true less ∙ sym (ap (λ w. bit_at w (k % 64) == 0) (zero_word m (k / 64)) ∙ ap (λ b. b == 0) (bit_at-zero (k % 64)))))

-- the word of an index
word_of : (i n m : ℕ) → i < n → n ≤ 64 * m → i / 64 < m
word_of i n m less within = omega arith

-- a bit at another index is as it was
other_bit : (words : List ℕ) (i k v : ℕ) → i / 64 < length words → k ≢ i
    → ((j : ℕ) → j < 64 → j ≢ i % 64 → bit_at v j ≡ bit_at (get_or words (i / 64) 0) j)
    → bit_at (get_or (set words (i / 64) v) (k / 64) 0) (k % 64) ≡ bit_at (get_or words (k / 64) 0) (k % 64)
other_bit words i k v within differ others = grind (arith, nat_tests, get_or-set_same, mod_below, get_or-set_other)

-- a word written so that one bit of it changes is one truth value written
pub clear_bits-set : (words : List ℕ) (n i v : ℕ) (b : Bool) → n ≤ 64 * length words → i < n → (bit_at v (i % 64) == 0) ≡ b
    → ((k : ℕ) → k < 64 → k ≢ i % 64 → bit_at v k ≡ bit_at (get_or words (i / 64) 0) k)
    → clear_bits (set words (i / 64) v) n ≡ set (clear_bits words n) i b
clear_bits-set words n i v b within less here others =
    sym (fill_by_all (is_clear (set words (i / 64) v)) (set (clear_bits words n) i b) n b (length-set (clear_bits words n) i b ∙ length-clear_bits words n) (λ k below.
    elim (cases_eq k i) [
      | inl same ↦
          (let at : get_or (set words (i / 64) v) (i / 64) 0 ≡ v = get_or-set_same words (i / 64) v 0 (word_of i n (length words) less within) in
          let F : ℕ → Type 0 = λ j. get_or (set (clear_bits words n) i b) j b ≡ is_clear (set words (i / 64) v) j in
          subst F (sym same) (get_or-set_same (clear_bits words n) i b b (omega (arith, length-clear_bits words n)) ∙ sym (ap (λ w. bit_at w (i % 64) == 0) at ∙ here)))
      | inr differ ↦
          get_or-set_other (clear_bits words n) i k b b differ ∙ get_or-clear_bits words n k b below ∙ sym (ap (λ b. b == 0) (other_bit words i k v (word_of i n (length words) less within) differ others))
    ]))

pub first_is : (xs : List Bool) (i : ℕ) → position_or_len (λ b. b) xs ≡ i → i < length xs → position (λ b. b) xs ≡ Some i
first_is xs i at less =
    ap (λ t. cond t (Some (position_or_len (λ (b : Bool). b) xs)) None) (lt-ltb (position_or_len (λ (b : Bool). b) xs) (length xs) (omega arith)) ∙ ap (λ j. Some j) at

-- a bit is cleared, or set
pub clear_bits-put : (words : List ℕ) (n i old : ℕ) → n ≤ 64 * length words → i < n → old ≡ get_or words (i / 64) 0
    → clear_bits (set words (i / 64) (bit_and old (bit_not w64 (1 * 2 ^ (i % 64) % 2 ^ bits w64)))) n ≡ set (clear_bits words n) i true
clear_bits-put words n i old within less read =
    clear_bits-set words n i (bit_and old (bit_not w64 (1 * 2 ^ (i % 64) % 2 ^ bits w64))) true within less (ap (λ b. b == 0) (bit_at_clear_same w64 old (i % 64) (mod_below i 64 (omega arith)))) (λ k below differ. bit_at_clear_other w64 old (i % 64) (mod_below i 64 (omega arith)) k below differ ∙ ap (λ w. bit_at w k) read)

pub clear_bits-take : (words : List ℕ) (n i old : ℕ) → n ≤ 64 * length words → i < n → old ≡ get_or words (i / 64) 0
    → clear_bits (set words (i / 64) (bit_or old (1 * 2 ^ (i % 64) % 2 ^ bits w64))) n ≡ set (clear_bits words n) i false
clear_bits-take words n i old within less read =
    clear_bits-set words n i (bit_or old (1 * 2 ^ (i % 64) % 2 ^ bits w64)) false within less (ap (λ b. b == 0) (bit_at_set_same w64 old (i % 64) (mod_below i 64 (omega arith)))) (λ k below differ. bit_at_set_other w64 old (i % 64) (mod_below i 64 (omega arith)) k differ ∙ ap (λ w. bit_at w k) read)

-- the first bit that is clear, by what stands at it and before it
pub position-clear_bits : (words : List ℕ) (n i : ℕ) → i < n → is_clear words i ≡ true
    → ((k : ℕ) → k < i → is_clear words k ≡ false) → position (λ b. b) (clear_bits words n) ≡ Some i
position-clear_bits words n i less here before =
    let size : length (clear_bits words n) ≡ n = length-clear_bits words n in
    let at : position_or_len (λ (b : Bool). b) (clear_bits words n) ≡ i =
    position_or_len_is (λ b. b) (clear_bits words n) i true (omega arith) (λ k below. get_or-clear_bits words n k true (omega arith) ∙ before k below) (λ _. get_or-clear_bits words n i true less ∙ here) in
    first_is (clear_bits words n) i at (omega arith)

pub position-clear_bits_none : (words : List ℕ) (n : ℕ) → ((k : ℕ) → k < n → is_clear words k ≡ false) → position (λ b. b) (clear_bits words n) ≡ None
position-clear_bits_none words n none =
    let size : length (clear_bits words n) ≡ n = length-clear_bits words n in
    grind (arith, nat_tests, position_or_len_is (λ b. b) (clear_bits words n) (length (clear_bits words n)) true, get_or-clear_bits words n)

-- a word whose bits are all set has none that is clear
pub is_clear-full : (words : List ℕ) (i : ℕ) → get_or words (i / 64) 0 ≡ 2 ^ 64 - 1 → is_clear words i ≡ false
is_clear-full words i full = grind (arith, bit_at_ones 64 (i % 64), mod_below i 64)

-- behind words whose bits are all set, the first clear bit of the next word is the first of all
pub record IsFirstClear (words : List ℕ) (i : ℕ) : Type 0 where
  pub here : is_clear words i ≡ true
  pub before : (k : ℕ) → k < i → is_clear words k ≡ false

at_place : (words : List ℕ) (place t word : ℕ) → word ≡ get_or words place 0 → t < 64 → (f : ℕ → Bool)
    → f (bit_at (get_or words ((64 * place + t) / 64) 0) ((64 * place + t) % 64)) ≡ f (bit_at word t)
at_place words place t word read less f = grind (arith)

pub first_clear : (words : List ℕ) (place word : ℕ) → word ≡ get_or words place 0 → word < 2 ^ 64 → word ≢ 2 ^ 64 - 1
    → ((k : ℕ) → k < place → get_or words k 0 ≡ 2 ^ 64 - 1) → IsFirstClear words (64 * place + trailing_ones w64 word)
first_clear words place word read fits unfull full = grind (arith, nat_tests, bit_at-trailing_ones w64 word, at_place words place, is_clear-full words, full)
