use Rattle.std.proofs.Common.{ap, ◌∙◌, arith}
use Rattle.tc_model.specs.Blocks.{without_block}
use Rattle.journal_audit.specs.Spread.{extents_of}
use Rattle.journal_audit.proofs.LiveFacts.{removed}
use Rattle.journal_audit.proofs.Spreads.{spread_without}
use Rattle.journal_audit.proofs.live.Live.remove.Goals as goal

pub invariant_of-self : goal.invariant_of-self
invariant_of-self c = grind (arith, removed, spread_without)

pub returns : goal.returns
returns c =
    ap extents_of c.remove.ensures.entries ∙ removed c.self.inside.lens.entries c.args.addr c.self.invariant ∙ ap (without_block c.args.addr) c.self.view_is
