use Rattle.std.proofs.Common.{arith}
use Rattle.free_ranges.proofs.Listed.{exchanged}
use Rattle.free_ranges.proofs.listing.RangeList.replace.Goals as goal

pub returns-clause-ranges : goal.returns-clause-ranges
returns-clause-ranges c x1 test = grind (arith, exchanged)
