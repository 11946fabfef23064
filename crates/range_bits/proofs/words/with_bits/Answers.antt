use Rattle.std.proofs.Common.{◌≡◌, ◌-◌, ◌^◌, arith}
use Rattle.range_bits.proofs.Common.{nat_tests, pow-le-pow_right, pow_pos}
use Rattle.range_bits.proofs.BitFacts.{used_bits, free_bits}
use Rattle.range_bits.proofs.words.with_bits.Goals as goal

pub overflow_sub-mask : goal.overflow_sub-mask
overflow_sub-mask c = grind (arith, nat_tests, pow-le-pow_right)

pub returns-then-used : goal.returns-then-used
returns-then-used c =
    let some = pow_pos c.args.low in
    let mask : c.ones.result - c.ones-2.result ≡ 2 ^ c.args.high - 2 ^ c.args.low = omega arith in
    grind (arith, used_bits c.args.word c.args.low c.args.high)

pub returns-else-used : goal.returns-else-used
returns-else-used c =
    let some = pow_pos c.args.low in
    let mask : c.ones.result - c.ones-2.result ≡ 2 ^ c.args.high - 2 ^ c.args.low = omega arith in
    grind (arith, free_bits c.args.word c.args.low c.args.high)
