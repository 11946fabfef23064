use Rattle.std.proofs.Common.{sym, take}
use Rattle.std.proofs.lemmas.List.Sums.{fold_push}
use Rattle.tc_model.specs.declared.calls.Planned.{Planned}
use Rattle.tc_model.proofs.Lists.{take_next}
use Rattle.std.specs.Prelude.{None}
use Rattle.tc_machine.specs.Taken.{lesser, refused_at}
use Rattle.tc_machine.proofs.taking.refused_in.Goals as goal

pub loop-place-preserved : goal.loop-place-preserved
loop-place-preserved g c =
    rw (take_next c.args.script.now.calls c.loop-place.place c.at.result c.at.ensures, c.lesser-least.ensures, c.refused_at.ensures, c.loop-place.invariant)
    (sym (fold_push (λ least (p : Planned). lesser least (refused_at g.M.Allocator.takes p)) None (take c.loop-place.place c.args.script.now.calls) c.at.result))
