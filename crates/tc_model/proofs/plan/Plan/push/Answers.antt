use Rattle.std.proofs.Common.{arith}
use Rattle.std.proofs.lemmas.List.{map-append}
use Rattle.tc_model.specs.Plans.{planned_of}
use Rattle.tc_model.proofs.PlanFacts.{planned_still}
use Rattle.tc_model.proofs.plan.Plan.push.Goals as goal

pub returns-clause-pushed : goal.returns-clause-pushed
returns-clause-pushed c =
    let more = c.in_ok-moved.ensures.more in
    let still = planned_still c.self.inside.moves.items more.0 c.self.inside.calls.items c.self.invariant in
    grind (arith, more.1, still, c.self.view_is, c.in_ok-push.ensures.items, c.in_ok-moved.ensures.is, map-append (planned_of c.enter_move.new.moves.items) c.self.inside.calls.items)

pub returns-in_err-moved-clause-same : goal.returns-in_err-moved-clause-same
returns-in_err-moved-clause-same c =
    let more = c.enter_move.ensures.more in
    let still = planned_still c.self.inside.moves.items more.0 c.self.inside.calls.items c.self.invariant in
    grind (arith, more.1, still, c.self.view_is)

pub returns-in_err-push-clause-same : goal.returns-in_err-push-clause-same
returns-in_err-push-clause-same c =
    let more = c.enter_move.ensures.more in
    let still = planned_still c.self.inside.moves.items more.0 c.self.inside.calls.items c.self.invariant in
    grind (arith, more.1, still, c.self.view_is, c.in_err-push.ensures.items)
