use Rattle.std.proofs.Common.{List, sym, ap, subst, ◌∙◌}
use Rattle.std.specs.List.{slice_get}
use Rattle.tc_model.proofs.Members.{has_none}
use Rattle.part_lock.specs.Lock.{first_lead}
use Rattle.part_lock.specs.Turns.{Ready}
use Rattle.relay.specs.declared.machine.Relay.{Relay}
use Rattle.relay.specs.declared.machine.Runner.{Runner}
use Rattle.relay.proofs.tests.one_turn.Goals as goal

pub seat-seat-requires-clause-main : goal.seat-seat-requires-clause-main
seat-seat-requires-clause-main g c =
    let begins = ap (λ (m : Relay). slice_get m.runners.items 0) c.in-Ok.ensures.key.0 ∙ ap (λ (l : List Runner). slice_get l 0) (sym c.in_ok-relay.ensures.locals ∙ (c.in_ok-relay.ensures.few ∙ c.as_slice.ensures)) in
    (first_lead c.in-Ok.parts.key, c.args.runner, c.in-Ok.ensures.main, begins, λ h. has_none 0 h)

pub turn-requires : goal.turn-requires
turn-requires g c =
    let begins = ap (λ (m : Relay). slice_get m.runners.items 0) c.in-Ok.ensures.key.0 ∙ ap (λ (l : List Runner). slice_get l 0) (sym c.in_ok-relay.ensures.locals ∙ (c.in_ok-relay.ensures.few ∙ c.as_slice.ensures)) in
    let parts = sym c.new-board.ensures in
    (c.seat-seat.ensures.seat.1 ∙ (c.in-Ok.ensures.seat ∙ ap (λ p. p.table.shared.table_id) parts), subst (λ p. Ready p.key 0 c.args.runner c.seat-seat.result.me) parts (c.seat-seat.ensures.worker c.args.runner begins))
