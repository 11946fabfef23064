use Rattle.std.proofs.Common.{◌≡◌, true, List, Bool, Some, None, sym, ap, ◌∙◌, arith}
use Rattle.free_ranges.proofs.Common.{best, none_exactly}
use Rattle.free_ranges.proofs.Found.{best_found, best_nowhere}
use Rattle.free_ranges.proofs.ranged.RangedBits.best.Goals as goal

pub returns-in-Some-clause-value : goal.returns-in-Some-clause-value
returns-in-Some-clause-value c = grind (arith, best_found c.self.inside.bits c.self.inside.ranges.ranges, c.self.invariant.0)

pub returns-in-Some-clause-none : goal.returns-in-Some-clause-none
returns-in-Some-clause-none c =
    let all : c.self.inside.ranges.complete ≡ true = sym c.is_complete.ensures ∙ c.if-not-is_complete.false in
    none_exactly c.args.self.now c.args.n (Some c.in-Some.range.start) c.requires
    (sym (best_found c.self.inside.bits c.self.inside.ranges.ranges (c.self.invariant.0 all) c.args.n c.in-Some.range c.in-Some.ensures.found)
    ∙ ap (λ (row : List Bool). best row c.args.n) c.self.view_is)

pub returns-in-None-clause-value : goal.returns-in-None-clause-value
returns-in-None-clause-value c =
    grind (arith, best_nowhere c.self.inside.bits c.self.inside.ranges.ranges, c.self.invariant.0, c.tightest.ensures.none c.in-None.is)

pub returns-in-None-clause-none : goal.returns-in-None-clause-none
returns-in-None-clause-none c =
    let all : c.self.inside.ranges.complete ≡ true = sym c.is_complete.ensures ∙ c.if-not-is_complete.false in
    none_exactly c.args.self.now c.args.n None c.requires (sym
    (best_nowhere c.self.inside.bits c.self.inside.ranges.ranges (c.self.invariant.0 all) c.args.n c.requires (c.tightest.ensures.none c.in-None.is))
    ∙ ap (λ (row : List Bool). best row c.args.n) c.self.view_is)
