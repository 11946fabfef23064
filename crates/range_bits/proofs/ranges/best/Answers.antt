use Rattle.std.proofs.Common.{arith}
use Rattle.range_bits.proofs.Common.{row_of}
use Rattle.range_bits.proofs.Scan.{none_exactly}
use Rattle.range_bits.proofs.ranges.best.Goals as goal

pub returns-in-Some-clause-none : goal.returns-in-Some-clause-none
returns-in-Some-clause-none c = grind (arith, none_exactly (row_of c.args.words.now) c.args.n c.best_of_four.result c.requires.some)

pub returns-in-None-clause-none : goal.returns-in-None-clause-none
returns-in-None-clause-none c = grind (arith, none_exactly (row_of c.args.words.now) c.args.n c.map.result c.requires.some)
