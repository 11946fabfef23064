use Rattle.std.proofs.Common.{◌≡◌, max, sym, take, rules}
use Rattle.std.proofs.lemmas.List.Sums.{fold_push}
use Rattle.tc_model.specs.declared.calls.Planned.{Planned}
use Rattle.tc_model.proofs.Lists.{take_next}
use Rattle.tc_model.specs.Input.{label_end}
use Rattle.numa_heaps.proofs.opening.end_of.Goals as goal

pub loop-place-preserved : goal.loop-place-preserved
loop-place-preserved c =
    let most : c.max-end.result ≡ max c.loop-place.end c.label_end.result = search rules in
    rw (most, take_next c.args.calls.now c.loop-place.place c.at.result c.at.ensures, c.label_end.ensures, c.loop-place.invariant)
    (sym (fold_push (λ end (p : Planned). max end (label_end p.call)) 0 (take c.loop-place.place c.args.calls.now) c.at.result))
