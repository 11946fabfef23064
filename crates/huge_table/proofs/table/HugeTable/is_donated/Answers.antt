use Rattle.std.proofs.Common.{ℕ, ◌≤◌, arith}
use Rattle.huge_table.proofs.Common.{get_or_default, hugepage_of, nat_tests}
use Rattle.huge_table.proofs.Sizes.{arena}
use Rattle.huge_table.proofs.Pages.{donated_is, at-now}
use Rattle.huge_table.proofs.table.HugeTable.is_donated.Goals as goal

pub returns : goal.returns
returns c =
    let t = c.self.inside in
    let h : ℕ = c.args.huge.0 in
    let size = arena t c.args.self.now c.self.view_is in
    let inside : h ≤ t.huge = omega (arith, c.requires.high) in
    let x_is = at-now t c.args.self.now h c.self.view_is c.requires.low inside in
    grind (arith, nat_tests, hugepage_of, get_or_default, donated_is)
