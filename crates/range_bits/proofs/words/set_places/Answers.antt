use Rattle.std.proofs.Common.{arith}
use Rattle.range_bits.proofs.Common.{nat_tests}
use Rattle.range_bits.proofs.Placing.{Placed, placed_none, placed_word, placed_all}
use Rattle.range_bits.proofs.words.set_places.Goals as goal

pub loop-index-init : goal.loop-index-init
loop-index-init c = placed_none c.args.words.now c.args.start _ c.args.used (omega arith)

pub loop-index-preserved : goal.loop-index-preserved
loop-index-preserved c =
    let old = c.args.words.now in
    let words = c.loop-index.words in
    let index = c.loop-index.index in
    let word = c.with_bits.result in
    grind (arith, placed_word old words c.args.start c.args.end index c.saturating_sub-low.result c.min-high.result word c.args.used)

pub returns-clause-places : goal.returns-clause-places
returns-clause-places c = grind (arith, nat_tests, placed_all, Placed)
