use Rattle.std.proofs.Common.{sym, ◌∙◌}
use Rattle.free_ranges.proofs.Listed.{still_listed}
use Rattle.free_ranges.proofs.listing.RangeList.join.Goals as goal

pub replace-requires-else-left-eq0 : goal.replace-requires-else-left-eq0
replace-requires-else-left-eq0 c all some =
    still_listed c.args.self.now c.remove.new.self c.args.right c.args.left c.requires.order (c.remove.ensures.ranges all) (c.requires.left (sym c.remove.ensures.complete ∙ all) some)
