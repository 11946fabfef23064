use Rattle.std.proofs.Common.{sym, set, false, refl, subst, arith}
use Rattle.page_map.specs.Spans.{without_span}
use Rattle.page_map.specs.Begins.{IsKept}
use Rattle.page_map.proofs.SpanFacts.{find-without_span}
use Rattle.page_map.proofs.Meaning.{Means, leaf_there, means_without}
use Rattle.page_map.proofs.map.PageMap.clear.Goals as goal
use Rattle.page_map.proofs.map.PageMap.clear.Goals.{After-remove}

pub put-requires : goal.put-requires
put-requires c = leaf_there c.self.inside.leaves.leaves.items c.self.inside.leaves.leaves.items c.self.inside.begins c.args.span c.args.self.now c.self.view_is c.self.invariant refl c.requires

meaning : (c : After-remove) → Means c.put.new.self.leaves.items (set c.self.inside.begins c.args.span.first.0 false) (record c.args.self.now { spans = without_span c.args.span c.args.self.now.spans })
meaning c = means_without c.self.inside.leaves.leaves.items c.put.new.self.leaves.items c.self.inside.begins c.args.span c.args.self.now c.self.view_is c.self.invariant c.put.ensures.size c.requires c.put.ensures.begins

pub invariant_of-self : goal.invariant_of-self
invariant_of-self c = subst (IsKept c.put.new.self.leaves.items) (sym c.remove.ensures) (meaning c).kept

pub returns-clause-spans : goal.returns-clause-spans
returns-clause-spans c = (meaning c).is

pub returns-clause-well_formed : goal.returns-clause-well_formed
returns-clause-well_formed c = (meaning c).kept.well_formed

pub returns-clause-reads : goal.returns-clause-reads
returns-clause-reads c = grind (arith, meaning c, find-without_span c.args.self.now.huge)
