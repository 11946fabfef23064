use Rattle.free_ranges.proofs.Common.{cases_lt, length-with_places, placed_again}
use Rattle.std.proofs.Common.{◌-◌, List, Bool, length, ap, inl, inr, arith}
use Rattle.std.proofs.lemmas.Bool.Decides.{nat_tests}
use Rattle.free_ranges.proofs.Listed.{filled_down, filled}
use Rattle.free_ranges.proofs.ranged.RangedBits.fill.Goals as goal

pub overflow_add-end : goal.overflow_add-end
overflow_add-end c = omega (arith, c.places.ensures, ap (λ (row : List Bool). length row) c.self.view_is)

pub loop-end-preserved : goal.loop-end-preserved
loop-end-preserved c =
    let row : List Bool = c.loop-end.self in
    grind (arith, length-with_places row, placed_again row, filled_down row c.loop-end.end c.args.start c.args.n)

pub returns-in_default : goal.returns-in_default
returns-in_default c =
    filled c.loop-end.self c.args.self.now c.args.start c.args.n (omega (arith, c.loop-end.invariant.len, c.requires)) c.loop-end.invariant.rest (λ k low high. elim (cases_lt k c.loop-end.end) [
      | inl before ↦ c.in-Some.ensures.found.behind k (omega (arith, c.if-start-range.false)) (omega arith)
      | inr behind ↦ c.loop-end.invariant.used k behind high
    ])

pub returns-in_default-2 : goal.returns-in_default-2
returns-in_default-2 c =
    grind (arith, nat_tests, filled c.loop-end.self c.args.self.now c.args.start c.args.n, c.last_range.ensures.none c.in_default.is, c.loop-end.invariant.used)

pub returns : goal.returns
returns c = grind (arith, filled)
