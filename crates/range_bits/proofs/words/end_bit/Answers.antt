use Rattle.std.proofs.Common.{◌≡◌, ◌/◌, ◌-◌, ◌^◌, ◌<◌, cond, sym, ap, ◌∙◌, arith, w64, bit_and, Bool, refl}
use Rattle.range_bits.proofs.Common.{bit_not, leading_zeros}
use Rattle.range_bits.proofs.EndBits.{EndBit, found_end}
use Rattle.range_bits.proofs.words.end_bit.Goals as goal
use Rattle.range_bits.proofs.words.end_bit.Goals.{then-used, else-used}

pub returns : goal.returns
returns c =
    let word = c.args.word in
    let seen : c.if-used.seen ≡ cond c.args.used word (bit_not w64 word) =
    elim c.if-used.branch [
      | then-used w ↦ w.seen-is ∙ sym (ap (λ (b : Bool). cond b word (bit_not w64 word)) w.if-used.true)
      | else-used w ↦ w.seen-is ∙ sym (ap (λ (b : Bool). cond b word (bit_not w64 word)) w.if-used.false)
    ] in
    let fits : word < 2 ^ 64 = omega arith in
    let mask = 18446744073709551615 / 2 ^ (64 - c.args.high) in
    let found : EndBit word c.args.high c.args.used (64 - leading_zeros w64 (bit_and c.if-used.seen mask)) = found_end word c.if-used.seen c.args.high mask c.args.used fits c.requires.within refl seen in
    record { within = found.within; behind = found.behind; there = found.there }
