use Rattle.std.proofs.lemmas.Bool.Decides.{nat_tests}
use Rattle.std.proofs.Common.{arith, Some, ◌∙◌, ◌==◌, sym, ap, cond, set, true, subst}
use Rattle.page_map.specs.Spans.{with_span}
use Rattle.page_map.specs.Begins.{IsKept}
use Rattle.page_map.proofs.SpanFacts.{find-with_span}
use Rattle.page_map.proofs.Meaning.{Means, means_with}
use Rattle.page_map.proofs.map.PageMap.set.Goals as goal
use Rattle.page_map.proofs.map.PageMap.set.Goals.{After-insert}

meaning : (c : After-insert) → Means c.put.new.self.leaves.items (set c.self.inside.begins c.args.span.first.0 true) (record c.args.self.now { spans = with_span c.args.span c.args.self.now.spans })
meaning c =
    means_with c.self.inside.leaves.leaves.items c.put.new.self.leaves.items c.self.inside.begins c.args.span c.args.self.now c.self.view_is c.self.invariant (c.put.ensures.size ∙ c.in_ok-make.ensures.size) c.requires.inside c.requires.apart
    (λ page. c.put.ensures.begins page ∙ ap (λ begin. cond (page == c.args.span.first.0) (Some c.args.span) begin) (c.in_ok-make.ensures.same page))

pub invariant_of-self-2 : goal.invariant_of-self-2
invariant_of-self-2 c = subst (IsKept c.put.new.self.leaves.items) (sym c.insert.ensures) (meaning c).kept

pub returns-clause-ok : goal.returns-clause-ok
returns-clause-ok c = (meaning c).is

pub returns-clause-well_formed : goal.returns-clause-well_formed
returns-clause-well_formed c = (meaning c).kept.well_formed

pub returns-clause-reads : goal.returns-clause-reads
returns-clause-reads c = grind (arith, nat_tests, meaning, find-with_span)
