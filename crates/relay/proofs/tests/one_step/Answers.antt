use Rattle.std.proofs.Common.{◌%◌, List, refl, sym, ap, ◌∙◌}
use Rattle.std.specs.List.{slice_get}
use Rattle.tc_model.proofs.Members.{has_none}
use Rattle.part_lock.specs.Lock.{first_lead, one_more, one_joined}
use Rattle.relay.specs.declared.machine.Relay.{Relay}
use Rattle.relay.specs.declared.machine.Runner.{Runner}
use Rattle.relay.proofs.Wholes.{wants_lane}
use Rattle.relay.proofs.tests.one_step.Goals as goal

pub seat-seat-requires-clause-main : goal.seat-seat-requires-clause-main
seat-seat-requires-clause-main g c =
    let begins = ap (λ (m : Relay). slice_get m.runners.items 0) c.in-Ok.ensures.key.0 ∙ ap (λ (l : List Runner). slice_get l 0) (sym c.in_ok-relay.ensures.locals ∙ (c.in_ok-relay.ensures.few ∙ c.as_slice.ensures)) in
    (first_lead c.in-Ok.parts.key, c.args.runner, c.in-Ok.ensures.main, begins, λ h. has_none 0 h)

pub step-step-requires-clause-ready : goal.step-step-requires-clause-ready
step-step-requires-clause-ready g c =
    let begins = ap (λ (m : Relay). slice_get m.runners.items 0) c.in-Ok.ensures.key.0 ∙ ap (λ (l : List Runner). slice_get l 0) (sym c.in_ok-relay.ensures.locals ∙ (c.in_ok-relay.ensures.few ∙ c.as_slice.ensures)) in
    c.seat-seat.ensures.worker c.args.runner begins

pub step-step-requires-clause-wants : goal.step-step-requires-clause-wants
step-step-requires-clause-wants g c = (c.args.runner.left % c.in-Ok.parts.key.machine.lanes, wants_lane c.in-Ok.parts.key.machine c.args.runner c.requires.left)

pub join-requires-clause-main : goal.join-requires-clause-main
join-requires-clause-main g c = let m = first_lead c.in-Ok.parts.key in (one_more 0 m, c.seat-seat.ensures.main m c.in-Ok.ensures.main)

pub close-requires-clause-main : goal.close-requires-clause-main
close-requires-clause-main g c =
    let m = first_lead c.in-Ok.parts.key in let w = c.step-step.ensures.ready in
    (one_joined (one_more 0 m) w.0, c.join.ensures.main (one_more 0 m) w.0 (c.seat-seat.ensures.main m c.in-Ok.ensures.main) w.1.0, refl)
