use Rattle.std.proofs.Common.{length-set, ◌+◌, ◌/◌, ◌%◌, arith}
use Rattle.range_bits.proofs.BitFacts.{one_between}
use Rattle.range_bits.proofs.Placing.{placed_none, placed_word, placed_all}
use Rattle.range_bits.proofs.words.set_place.Goals as goal

pub returns-clause-places : goal.returns-clause-places
returns-clause-places c =
    let old = c.args.words.now in
    let place = c.args.place in
    let index = place / 64 in
    let word = c.with_bit.result in
    grind (
      arith,
      placed_none old place,
      placed_word old old place (place + 1) index (place % 64) (place % 64 + 1) word c.args.used,
      c.with_bit.ensures,
      one_between (place % 64),
      placed_all old,
      length-set old index word,
    )
