use Rattle.std.proofs.Common.{length-set, ◌-◌, ◌*◌, ◌/◌, ◌%◌, arith}
use Rattle.range_bits.proofs.Placing.{placed_none, placed_word, placed_all}
use Rattle.range_bits.proofs.words.set_in_word.Goals as goal

pub returns-clause-places : goal.returns-clause-places
returns-clause-places c =
    let old = c.args.words.now in
    let start = c.args.start in
    let index = start / 64 in
    let word = c.with_bits.result in
    grind (
      arith,
      placed_none old start (64 * index),
      placed_word old old start c.args.end index (start % 64) (c.args.end - index * 64) word c.args.used,
      c.with_bits.ensures,
      placed_all old,
      length-set old index word,
    )
