use Rattle.std.proofs.Common.{[], ◌∷◌, sym, take}
use Rattle.std.proofs.lemmas.List.{map-append}
use Rattle.tc_model.specs.declared.calls.Planned.{Planned}
use Rattle.tc_model.proofs.Lists.{take_next}
use Rattle.numa_heaps.specs.Opening.{node_by}
use Rattle.numa_heaps.proofs.opening.route_of.Goals as goal

pub loop-place-preserved : goal.loop-place-preserved
loop-place-preserved c =
    rw (c.in_ok-push.ensures.items, take_next c.args.calls.now c.loop-place.place c.at.result c.at.ensures, c.node_of.ensures, c.loop-place.invariant)
    (sym (map-append (λ (p : Planned). node_by c.args.here c.args.owners.now p.call) (take c.loop-place.place c.args.calls.now) (c.at.result ∷ [])))
