use Rattle.std.proofs.Common.{ℕ, ◌/◌, ◌≤◌, Bool, true, false, sym, ap, ◌∙◌, arith}
use Rattle.huge_table.proofs.Common.{get_or_default, RowKind, Hugepage, backs, bit, hugepage_of, of_kind}
use Rattle.huge_table.specs.Table.{at}
use Rattle.huge_table.proofs.Sizes.{arena}
use Rattle.huge_table.proofs.Pages.{backs_is, at-now}
use Rattle.huge_table.proofs.Steps.{at-heap}
use Rattle.huge_table.proofs.table.HugeTable.is_backed.Goals as goal

pub returns : goal.returns
returns c heap means =
    let t = c.self.inside in
    let page : ℕ = c.args.page.0 in
    let h : ℕ = page / 256 in
    let now = c.args.self.now in
    let size = arena t now c.self.view_is in
    let inside : h ≤ t.huge = omega (arith, c.requires.high) in
    let x_is = at-now t now h c.self.view_is (omega (arith, c.requires.low)) inside in
    let kind : RowKind = (hugepage_of t h).kind in
    c.by_kind.ensures
    ∙ ap (λ (k : RowKind). of_kind k true c.is_used-whole.result c.is_used-own.result) (c.kind.ensures.kind ∙ ap (λ (k : ℕ). (at now k).kind) c.huge_of.ensures ∙ ap (λ (x : Hugepage). x.kind) x_is)
    ∙ ap (λ (b : Bool). of_kind kind true b c.is_used-own.result) (c.is_used-whole.ensures ∙ get_or_default t.backed h true false (omega arith))
    ∙ ap (λ (b : Bool). of_kind kind true (bit t.backed h) b) (c.is_used-own.ensures ∙ get_or_default t.page_backed page true false (omega (arith, c.self.invariant.page_backed)))
    ∙ backs_is (bit t.grouped h) (bit t.shared h) (bit t.backed h) (bit t.donated h) t.page_backed page
    ∙ ap (λ (x : Hugepage). backs x page) (sym x_is ∙ at-heap now heap means h)
