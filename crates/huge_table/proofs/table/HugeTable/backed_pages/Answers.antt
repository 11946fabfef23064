use Rattle.std.proofs.Common.{ℕ, ◌*◌, ◌≤◌, true, false, ap, ◌∙◌, arith}
use Rattle.huge_table.proofs.Common.{get_or_default, bit}
use Rattle.huge_table.proofs.Sizes.{arena}
use Rattle.huge_table.proofs.Pages.{backed_is, slice_is, at-now}
use Rattle.huge_table.proofs.table.HugeTable.backed_pages.Goals as goal

pub returns : goal.returns
returns c =
    let t = c.self.inside in
    let h : ℕ = c.args.huge.0 in
    let size = arena t c.args.self.now c.self.view_is in
    let inside : h ≤ t.huge = omega (arith, c.requires.high) in
    let x_is = at-now t c.args.self.now h c.self.view_is c.requires.low inside in
    let even = c.is_used.ensures ∙ get_or_default t.backed c.from-place.result true false (omega (arith, c.from-place.ensures)) ∙ ap (bit t.backed) c.from-place.ensures in
    grind (arith, slice_is t.page_backed (256 * h) 256, backed_is)
