use Rattle.std.proofs.Common.{ap, count_by, arith}
use Rattle.free_ranges.proofs.Common.{Listing}
use Rattle.free_ranges.proofs.Listed.{added}
use Rattle.free_ranges.proofs.listing.RangeList.add.Goals as goal

pub returns-clause-ranges : goal.returns-clause-ranges
returns-clause-ranges c _ test =
    omega (
      arith,
      added test c.self.inside.by_length.keys c.insert.new.self.keys c.args.start c.args.len (omega arith) c.insert.ensures.keys,
      ap
          (λ (l : Listing). count_by test l.ranges) c.self.view_is,
    )
