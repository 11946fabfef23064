use Rattle.std.proofs.Common.{◌≡◌, true, List, Bool, sym, ap, ◌∙◌, arith}
use Rattle.free_ranges.proofs.Common.{longest}
use Rattle.free_ranges.proofs.Found.{longest_found, longest_nowhere}
use Rattle.free_ranges.proofs.ranged.RangedBits.longest.Goals as goal

pub returns-in-Some : goal.returns-in-Some
returns-in-Some c =
    let all : c.self.inside.ranges.complete ≡ true = sym c.is_complete.ensures ∙ c.if-not-is_complete.false in
    sym (longest_found c.self.inside.bits c.self.inside.ranges.ranges (c.self.invariant.0 all) c.in-Some.range c.in-Some.ensures.found) ∙ ap (λ (row : List Bool). longest row) c.self.view_is

pub returns-in-None : goal.returns-in-None
returns-in-None c = grind (arith, longest_nowhere c.self.inside.bits c.self.inside.ranges.ranges, c.self.invariant.0, c.longest-2.ensures.none c.in-None.is)
