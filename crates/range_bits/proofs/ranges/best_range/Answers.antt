use Rattle.std.proofs.Common.{sym, arith}
use Rattle.range_bits.proofs.Common.{row_of}
use Rattle.range_bits.proofs.RowFacts.{length-row_of}
use Rattle.range_bits.proofs.Scan.{best_taken, best_passed, best_found, best_exact}
use Rattle.range_bits.proofs.ranges.best_range.Goals as goal

pub loop-from-preserved : goal.loop-from-preserved
loop-from-preserved c =
    let row = row_of c.args.words.now in
    let from = c.loop-from.from in
    let range = c.next_range-range.result in
    grind (arith, best_taken row c.args.n from c.loop-from.found, best_passed row c.args.n from)

pub returns : goal.returns
returns c = best_found (row_of c.args.words.now) c.args.n c.loop-from.from c.loop-from.found c.requires.some (omega (arith, length-row_of c.args.words.now)) c.loop-from.invariant.best

pub returns-then-range-n : goal.returns-then-range-n
returns-then-range-n c =
    sym (best_exact (row_of c.args.words.now) c.args.n c.loop-from.from c.loop-from.found c.next_range-range.result c.next_range-range.ensures.next c.loop-from.invariant.edge c.requires.some c.if-range-n.true c.loop-from.invariant.best c.loop-from.invariant.longer)
