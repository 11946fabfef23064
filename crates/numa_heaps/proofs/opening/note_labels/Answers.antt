use Rattle.std.proofs.Common.{sym, take}
use Rattle.std.proofs.lemmas.List.Sums.{fold_push}
use Rattle.tc_model.specs.declared.calls.Planned.{Planned}
use Rattle.tc_model.proofs.Lists.{take_next}
use Rattle.numa_heaps.specs.Opening.{owners_with}
use Rattle.numa_heaps.proofs.opening.note_labels.Goals as goal

pub loop-place-preserved : goal.loop-place-preserved
loop-place-preserved c =
    rw (take_next c.args.calls.now c.loop-place.place c.at.result c.at.ensures, c.note_label.ensures, c.loop-place.invariant)
    (sym (fold_push (λ os (p : Planned). owners_with c.args.here os p.call) c.args.owners.now (take c.loop-place.place c.args.calls.now) c.at.result))
