use Rattle.std.proofs.Common.{◌+◌, ◌*◌, length, arith}
use Rattle.range_bits.proofs.RowFacts.{skip_in_word, next_found, next_nowhere}
use Rattle.range_bits.proofs.words.next_place.Goals as goal

pub returns-then-bit-lt64 : goal.returns-then-bit-lt64
returns-then-bit-lt64 c =
    let words = c.args.words.now in
    let from = c.args.from in
    let used = c.args.used in
    let index = c.loop-index.index in
    let low = c.loop-index.low in
    let bit = c.next_bit-bit.result in
    let to = index * 64 + bit in
    grind (arith, skip_in_word words from index low bit to used c.loop-index.invariant.skipped, next_found words from index low bit to used)

pub returns : goal.returns
returns c =
    let words = c.args.words.now in
    let to = length words * 64 in
    grind (arith, next_nowhere words c.args.from to c.args.used)
