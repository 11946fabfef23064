-- The digits at the front of a block of bytes, and the number that they spell.
use Rattle.std.proofs.Common.{◌≡◌, ℕ, zero, suc, ◌+◌, ◌-◌, ◌*◌, ◌%◌, ◌^◌, ◌<◌, ◌≤◌, true, not, ltb, List, [], ◌∷◌, length, get_or, take, drop, map, replicate, refl, arith, w8, Fits}
use Rattle.std.proofs.Math.Nat.{mul-le-mul_right}
use Rattle.std.proofs.lemmas.List.{length-take-le}
use Rattle.std.proofs.lemmas.Bool.Decides.{nat_tests}
use Rattle.std.proofs.lemmas.Simd.{zip2_splat}
use Rattle.std.specs.Simd.Lanes.{Each1, zip2, fold_l, sum_l, products}
use Rattle.std.specs.List.{list_all, prefix_len, position_or_len}
use Rattle.tc_units.specs.Decimal.{is_digit, value_from}
use Rattle.trace_text.specs.Lines.{is_space}

-- a byte less the digit 0, as it wraps
abbrev pub less_zero : ℕ → ℕ
less_zero b = (b + 208) % 256

-- what each of k digits is worth, in a block with z bytes more
abbrev pub worths : ℕ → ℕ → List ℕ
worths zero z = replicate z 0
worths (suc k) z = 10 ^ k ∷ worths k z

-- the window of the table for k digits
pub window : (k : ℕ) → k < 8
    → (take 8 (take (15 - (7 - k)) (drop (7 - k) (1000000 ∷ 100000 ∷ 10000 ∷ 1000 ∷ 100 ∷ 10 ∷ 1 ∷ 0 ∷ 0 ∷ 0 ∷ 0 ∷ 0 ∷ 0 ∷ 0 ∷ 0 ∷ []))) ≡ worths k (8 - k)) × (sum_l (worths k (8 - k)) ≤ 1111111)
window zero l = (refl, omega arith)
window (suc zero) l = (refl, omega arith)
window (suc (suc zero)) l = (refl, omega arith)
window (suc (suc (suc zero))) l = (refl, omega arith)
window (suc (suc (suc (suc zero)))) l = (refl, omega arith)
window (suc (suc (suc (suc (suc zero))))) l = (refl, omega arith)
window (suc (suc (suc (suc (suc (suc zero)))))) l = (refl, omega arith)
window (suc (suc (suc (suc (suc (suc (suc zero))))))) l = (refl, omega arith)
window (suc (suc (suc (suc (suc (suc (suc (suc k)))))))) l = absurd (omega arith)

-- the sum of the products is small
pub sum_small : (bytes ws : List ℕ) → sum_l (products (map less_zero bytes) ws) ≤ 255 * sum_l ws
sum_small [] ws = omega arith
sum_small (b ∷ bytes) [] = omega arith
sum_small (b ∷ bytes) (w ∷ ws) =
    let here : less_zero b * w ≤ 255 * w = mul-le-mul_right w (omega arith) in
    omega (arith, here, sum_small bytes ws)

no_worth : (z : ℕ) → sum_l (replicate z 0) ≡ 0
no_worth zero = refl
no_worth (suc z) = omega (arith, no_worth z)

-- the digits' worths add up to what they spell
pub weighed : (n k z : ℕ) (bytes : List ℕ) → list_all is_digit (take k bytes) ≡ true → k ≤ length bytes
    → sum_l (products (map less_zero bytes) (worths k z)) + n * 10 ^ k ≡ value_from n (take k bytes)
weighed n zero z bytes h l = grind (arith, sum_small bytes (replicate z 0), no_worth z)
weighed n (suc k) z [] h l = absurd (omega arith)
weighed n (suc k) z (b ∷ bytes) h l =
    let d : less_zero b ≡ b - 48 = grind (arith, nat_tests) in
    let more = weighed (10 * n + (b - 48)) k z bytes (grind (arith, nat_tests)) (omega arith) in
    let step : (b - 48) * 10 ^ k + n * (10 * 10 ^ k) ≡ (10 * n + (b - 48)) * 10 ^ k = grind arith in
    grind arith

-- the bytes before the first one that isn't below ten are digits
pub front_digits : (bytes : List ℕ) (n : ℕ) → Each1 (Fits w8) bytes → n ≤ prefix_len (λ v. not (ltb 9 v)) (map less_zero bytes) → list_all is_digit (take n bytes) ≡ true
front_digits bytes zero small h = refl
front_digits [] (suc n) small h = refl
front_digits (b ∷ bytes) (suc n) small h =
    let here : b < 256 = small.0.fits in
    grind (arith, nat_tests, front_digits bytes n small.1)

-- a sum of products that fits is the same in lanes that wrap
pub unwrapped : (n : ℕ) (vs ws : List ℕ) → n + sum_l (products vs ws) < 2 ^ 32
    → fold_l (λ s p. (s + p) % 2 ^ 32) n (zip2 (λ v w. (v * w) % 2 ^ 32) vs ws) ≡ n + sum_l (products vs ws)
unwrapped n [] ws h = omega arith
unwrapped n (v ∷ vs) [] h = omega arith
unwrapped n (v ∷ vs) (w ∷ ws) h =
    let here : (n + v * w % 2 ^ 32) % 2 ^ 32 ≡ n + v * w = omega arith in
    rw (here, fold_l) (omega (arith, unwrapped (n + v * w) vs ws (omega arith)))

-- the lanes of a block, less the digit 0
pub lanes_less : (bytes : List ℕ) → 8 ≤ length bytes → zip2 (λ a b. (a + (256 - b)) % 256) (take 8 bytes) (replicate 8 48) ≡ map less_zero (take 8 bytes)
lanes_less bytes some = zip2_splat (λ a b. (a + (256 - b)) % 256) (take 8 bytes) 8 48 (length-take-le 8 bytes some)

-- a field of n digits, which a space or the line's end ends
pub digits_are_field : (rest : List ℕ) (n : ℕ) → list_all is_digit (take n rest) ≡ true → n ≤ length rest → (n < length rest → get_or rest n 0 ≡ 32) → n ≡ position_or_len is_space rest
digits_are_field [] n digits inside ends = omega arith
digits_are_field (b ∷ rest) zero digits inside ends = grind (arith, nat_tests)
digits_are_field (b ∷ rest) (suc n) digits inside ends = grind (arith, nat_tests, digits_are_field rest n)
