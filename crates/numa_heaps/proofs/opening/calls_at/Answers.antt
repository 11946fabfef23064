use Rattle.std.proofs.Common.{[], ◌∷◌, ◌==◌, take, arith}
use Rattle.std.proofs.lemmas.Bool.Decides.{nat_tests}
use Rattle.std.proofs.lemmas.List.Elements.{filter-append}
use Rattle.std.proofs.lemmas.List.{append-nil}
use Rattle.tc_model.specs.declared.calls.Planned.{Planned}
use Rattle.tc_model.proofs.Lists.{take_next}
use Rattle.numa_heaps.specs.Opening.{node_by}
use Rattle.numa_heaps.proofs.opening.calls_at.Goals as goal
use Rattle.numa_heaps.proofs.opening.calls_at.Goals.{then-eq+in_ok-push, else-eq}

pub loop-place-preserved : goal.loop-place-preserved
loop-place-preserved c =
    let here = filter-append (λ (p : Planned). (node_by c.args.here c.args.owners.now p.call).0 == c.args.node.0) (take c.loop-place.place c.args.calls.now) (c.at-planned.result ∷ []) in
    let next = take_next c.args.calls.now c.loop-place.place c.at-planned.result c.at-planned.ensures in
    elim c.if-eq.branch [
      | then-eq+in_ok-push w ↦ grind (arith, nat_tests, next, here, w.in_ok-push.ensures, w.kept-is, c.loop-place.invariant, c.node_of.ensures)
      | else-eq w ↦ grind (arith, nat_tests, next, here, w.kept-is, c.loop-place.invariant, c.node_of.ensures, append-nil)
    ]
