use Rattle.free_ranges.proofs.Listed.{free_within}
use Rattle.free_ranges.proofs.ranged.RangedBits.mark.Goals as goal

pub part-requires-clause-within : goal.part-requires-clause-within
part-requires-clause-within c = free_within c.args.self.now c.in-Some.range c.args.start c.args.n c.requires.some c.requires.free c.in-Some.ensures.found
