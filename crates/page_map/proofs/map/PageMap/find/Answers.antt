use Rattle.std.proofs.lemmas.Bool.Decides.{nat_tests}
use Rattle.std.proofs.Common.{arith, Some, None, cond, sym, ap, ◌∙◌}
use Rattle.page_map.proofs.Meaning.{outside, none_begun, begun, past_by}
use Rattle.page_map.proofs.map.PageMap.find.Goals as goal

pub returns-then-not-have-clause-first : goal.returns-then-not-have-clause-first
returns-then-not-have-clause-first c = grind (arith, nat_tests, outside, past_by)

pub returns-in_err-begin-clause-first : goal.returns-in_err-begin-clause-first
returns-in_err-begin-clause-first c = c.from_residual.ensures ∙ none_begun c.self.inside.leaves.leaves.items c.self.inside.begins c.args.self.now c.args.page.0 c.self.view_is c.self.invariant c.in_err-begin.ensures

pub returns-then-holds-clause-first : goal.returns-then-holds-clause-first
returns-then-holds-clause-first c =
    sym (ap (λ b. cond b (Some c.in_ok-span.span) None) (sym c.holds.ensures ∙ c.if-holds.true))
    ∙ begun c.self.inside.leaves.leaves.items c.self.inside.begins c.args.self.now c.args.page.0 c.self.view_is c.self.invariant c.in_ok-begin.begin c.in_ok-span.span c.in_ok-begin.ensures (sym c.in_ok-span.ensures)

pub returns-else-holds-clause-first : goal.returns-else-holds-clause-first
returns-else-holds-clause-first c =
    sym (ap (λ b. cond b (Some c.in_ok-span.span) None) (sym c.holds.ensures ∙ c.if-holds.false))
    ∙ begun c.self.inside.leaves.leaves.items c.self.inside.begins c.args.self.now c.args.page.0 c.self.view_is c.self.invariant c.in_ok-begin.begin c.in_ok-span.span c.in_ok-begin.ensures (sym c.in_ok-span.ensures)
