use Rattle.std.proofs.Common.{◌≡◌, ℕ, true, false, sym, ap, ◌∙◌, arith}
use Rattle.huge_table.proofs.Common.{get_or_default, Hugepage, bit, kind_by}
use Rattle.heap_rules.proofs.Places.{at}
use Rattle.huge_table.proofs.Sizes.{arena}
use Rattle.huge_table.proofs.Pages.{kind_is, at-now}
use Rattle.huge_table.proofs.Steps.{at-heap}
use Rattle.huge_table.proofs.table.HugeTable.kind.Goals as goal

of_table : (c : goal.After-kind_of) → c.kind_of.result ≡ (at c.args.self.now.pages c.args.huge.0).kind
of_table c =
    let t = c.self.inside in
    let h : ℕ = c.args.huge.0 in
    let place : ℕ = c.from-place.result in
    let size = arena t c.args.self.now c.self.view_is in
    c.kind_of.ensures
    ∙ ap (λ b. kind_by b c.is_used-2.result) (c.is_used.ensures ∙ get_or_default t.grouped place true false (omega (arith, c.from-place.ensures)))
    ∙ ap (kind_by (bit t.grouped place)) (c.is_used-2.ensures ∙ get_or_default t.shared place true false (omega (arith, c.from-place.ensures)))
    ∙ ap (λ (k : ℕ). kind_by (bit t.grouped k) (bit t.shared k)) c.from-place.ensures
    ∙ kind_is (bit t.grouped h) (bit t.shared h) (bit t.backed h) (bit t.donated h) t.page_backed h
    ∙ sym (ap (λ (x : Hugepage). x.kind) (at-now t c.args.self.now h c.self.view_is c.requires.low (omega (arith, c.requires.high))))

pub returns-clause-kind : goal.returns-clause-kind
returns-clause-kind c = of_table c

pub returns-clause-heap : goal.returns-clause-heap
returns-clause-heap c heap means = of_table c ∙ ap (λ (x : Hugepage). x.kind) (at-heap c.args.self.now heap means c.args.huge.0)
