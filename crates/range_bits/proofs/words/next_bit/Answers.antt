use Rattle.std.proofs.Common.{◌≡◌, ◌*◌, ◌^◌, ◌%◌, ◌<◌, cond, sym, ap, ◌∙◌, arith, w64, bit_and, Bool}
use Rattle.range_bits.proofs.Common.{ones_shl, bit_not, trailing_zeros}
use Rattle.range_bits.proofs.BitFacts.{FirstBit, found_bit}
use Rattle.range_bits.proofs.words.next_bit.Goals as goal
use Rattle.range_bits.proofs.words.next_bit.Goals.{then-used, else-used}

pub returns : goal.returns
returns c =
    let word = c.args.word in
    let seen : c.if-used.seen ≡ cond c.args.used word (bit_not w64 word) =
    elim c.if-used.branch [
      | then-used w ↦ w.seen-is ∙ sym (ap (λ (b : Bool). cond b word (bit_not w64 word)) w.if-used.true)
      | else-used w ↦ w.seen-is ∙ sym (ap (λ (b : Bool). cond b word (bit_not w64 word)) w.if-used.false)
    ] in
    let fits : word < 2 ^ 64 = omega arith in
    let mask = 18446744073709551615 * 2 ^ c.args.low % 18446744073709551616 in
    let found : FirstBit word c.args.low c.args.used (trailing_zeros w64 (bit_and c.if-used.seen mask)) = found_bit word c.if-used.seen c.args.low mask c.args.used fits (omega arith) c.requires (ones_shl 64 c.args.low (omega arith)) seen in
    record { behind = found.behind; within = found.within; before = found.before; there = found.there }
