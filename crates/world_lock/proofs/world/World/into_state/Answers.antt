use Rattle.std.proofs.Common.{[], sym, subst}
use Rattle.std.proofs.lemmas.List.{append-nil}
use Rattle.tc_model.specs.Input.{Input}
use Rattle.tc_model.specs.Run.{start}
use Rattle.tc_model.specs.Chains.{IsPolite}
use Rattle.cpu_rows.specs.Machine as allocator
use Rattle.cpu_rows.specs.Switches.{SwitchesAreFew}
use Rattle.world_lock.proofs.world.World.into_state.Goals as goal

pub returns-clause-switches : goal.returns-clause-switches
returns-clause-switches g c =
    let order = c.self.inside.state.order in
    let polite = subst (λ (i : Input). IsPolite (allocator.rules i) (start (allocator.rules i)) order) (sym c.self.invariant.0) c.self.invariant.1 in
    subst (λ (i : Input). SwitchesAreFew (allocator.rules i) order) c.self.invariant.0 ((c.order-order.ensures.lawful.holds order [] (append-nil order)).switches polite)
