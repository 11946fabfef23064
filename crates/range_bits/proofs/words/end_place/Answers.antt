use Rattle.std.proofs.Common.{◌-◌, ◌/◌, arith}
use Rattle.range_bits.proofs.Common.{nat_tests}
use Rattle.range_bits.proofs.EndBits.{EndBit, end_in_row, none_in_word, end_nowhere}
use Rattle.range_bits.proofs.words.end_place.Goals as goal

pub loop-end-preserved : goal.loop-end-preserved
loop-end-preserved c = grind (arith, nat_tests, none_in_word, EndBit)

pub returns-then-bit-gt0 : goal.returns-then-bit-gt0
returns-then-bit-gt0 c =
    let words = c.args.words.now in
    let end = c.loop-end.end in
    let index = (end - 1) / 64 in
    let bit = c.end_bit-bit.result in
    grind (arith, end_in_row words c.args.before index end bit c.args.used c.requires.inside)

pub returns : goal.returns
returns c = end_nowhere c.args.words.now c.args.before c.args.used c.requires.inside (λ k to. c.loop-end.invariant.behind k (omega arith) to)
