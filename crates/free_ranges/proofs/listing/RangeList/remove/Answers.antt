use Rattle.std.proofs.Common.{ap, count_by, arith}
use Rattle.free_ranges.proofs.Common.{Listing}
use Rattle.free_ranges.proofs.Listed.{taken}
use Rattle.free_ranges.proofs.listing.RangeList.remove.Goals as goal

pub returns-clause-ranges : goal.returns-clause-ranges
returns-clause-ranges c _ test =
    omega (
      arith,
      taken test c.self.inside.by_length.keys c.remove.new.self.keys c.args.start c.args.len (omega arith) c.remove.ensures.keys,
      ap
          (λ (l : Listing). count_by test l.ranges) c.self.view_is,
    )
