use Rattle.std.proofs.Common.{IsSomeAnd, sym, ap, subst, ◌∙◌}
use Rattle.tc_model.specs.Heads.{default_config}
use Rattle.alloc_rules.specs.Fits.{Fits}
use Rattle.no_caches.specs.NoCaches.{fits}
use Rattle.node_rules.specs.NumaLaw.{waits_now}
use Rattle.numa_heaps.proofs.Acting.{at_node}
use Rattle.numa_heaps.proofs.local.NumaLocal.waits.Goals as goal

pub waits_at-requires : goal.waits_at-requires
waits_at-requires c =
    let rows = c.requires.0 in
    let at = at_node c.self.inside c.self.view_is c.requires.1 c.in-Some.is c.node.ensures c.from.ensures c.index.ensures in
    (record { table = rows; config = default_config }, subst (λ o. IsSomeAnd o (Fits rows fits c.args.part.now)) at.now c.requires.1.now)

pub returns : goal.returns
returns c =
    let at = at_node c.self.inside c.self.view_is c.requires.1 c.in-Some.is c.node.ensures c.from.ensures c.index.ensures in
    c.waits_at.ensures ∙ ap (waits_now c.args.part.now) (sym at.now)
