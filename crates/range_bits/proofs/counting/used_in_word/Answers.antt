use Rattle.std.proofs.Common.{◌≡◌, ℕ, ◌/◌, ◌%◌, get_or, bit_and, ap, ◌∙◌, arith}
use Rattle.range_bits.proofs.Common.{nat_tests, bit_at, and_le_r, pow_pos, bit_at_and, bit_at_ones, bit_at-lt}
use Rattle.range_bits.proofs.Counts.{ones_in_word}
use Rattle.range_bits.proofs.counting.used_in_word.Goals as goal

pub returns-then-bits-eq0 : goal.returns-then-bits-eq0
returns-then-bits-eq0 c = grind (arith, nat_tests)

pub returns : goal.returns
returns c =
    let n : ℕ = c.args.place % 64 in
    let word : ℕ = get_or c.args.words.now (c.args.place / 64) 0 in
    let some = pow_pos n in
    ones_in_word c.args.words.now (c.args.place / 64) n c.args.place (bit_and word c.ones.result) (omega arith) (omega arith) (omega arith) (omega (arith, and_le_r word c.ones.result))
    (λ k low. let mask : bit_at c.ones.result k ≡ 1 = ap (λ (m : ℕ). bit_at m k) c.ones.ensures ∙ bit_at_ones n k low in omega (arith, bit_at_and word c.ones.result k, bit_at-lt word k))
