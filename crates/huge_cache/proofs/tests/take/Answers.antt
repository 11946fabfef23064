use Rattle.std.proofs.Common.{ℕ, ◌-◌, ◌≤◌, true, List, Bool, length, sym, subst, ap, arith}
use Rattle.huge_cache.proofs.Common.{used_from, free_inside, used_then, length-with_places, Cache}
use Rattle.huge_cache.proofs.tests.take.Goals as goal

pub returns-clause-inside : goal.returns-clause-inside
returns-clause-inside c =
    let row : List Bool = c.args.cache.now.taken in
    let start : ℕ = c.in_ok-first.first.0 - 1 in
    let inside = free_inside row start c.args.many c.requires c.in_ok-first.ensures.free in
    omega (arith, inside, length-with_places row start c.args.many true inside, ap (λ (v : Cache). length v.taken) c.take_out.ensures)

pub returns-clause-out : goal.returns-clause-out
returns-clause-out c =
    subst (λ (v : Cache). c.args.many ≤ used_from v.taken (c.in_ok-first.first.0 - 1)) (sym c.take_out.ensures)
    (used_then _ (c.in_ok-first.first.0 - 1) c.args.many c.requires c.in_ok-first.ensures.free)
