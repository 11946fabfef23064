use Rattle.std.proofs.Common.{ℕ, ◌<◌, sym, subst, arith}
use Rattle.huge_region.proofs.Common.{RegionRow, Regions, joined, start_in, AreUsedIn}
use Rattle.huge_region.proofs.Came.{came}
use Rattle.huge_region.proofs.tests.pass_through.Goals as goal

pub leave-requires : goal.leave-requires
leave-requires c =
    let page : ℕ = c.in-Some.first.0 in
    let n : ℕ = c.args.n in
    let free = c.in-Some.ensures.free in
    let r : RegionRow = joined (start_in free.0 page) n free.0 in
    let some : 0 < n = omega (arith, c.if-n-eq0.false) in
    record { some = some; used = (r, subst (λ (all : Regions). AreUsedIn all page n r) (sym (c.join.ensures free.0 free.1.row)) (came c.args.regions.now page n free.0 some free.1)) }
