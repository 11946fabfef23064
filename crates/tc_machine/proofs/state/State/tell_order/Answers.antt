use Rattle.std.proofs.Common.{ap, ◌∙◌}
use Rattle.tc_machine.specs.Played.{Played}
use Rattle.tc_machine.proofs.AlongFacts.{along_first, stopped_by}
use Rattle.tc_machine.proofs.StandingFacts.{may_stand}
use Rattle.tc_machine.proofs.state.State.tell_order.Goals as goal

pub run_order-requires-clause-watched : goal.run_order-requires-clause-watched
run_order-requires-clause-watched g c =
    let m = c.self-2.inside.replay.machine in
    let same = c.self-2.view_is ∙ c.ready.ensures.same in
    let order = ap (λ (p : Played _). p.order) same ∙ c.requires.start in
    let rules = g.met.M.Allocator.same_rules m in
    let decided = rw (← same, ← rules) at c.in-Ok.ensures.decided in
    rw (c.in-Ok.ensures.first, c.in-Ok.ensures.heard)
    (along_first order decided (g.met.M.Decides.none_first m) (g.met.M.Decides.none_told m)
    (λ o of earlier line later is few. (may_stand _ _ _ (g.met.M.Decides.on_blocks m o of) (g.met.M.Decides.low_arena m) earlier line later is few, c.requires.hears earlier line)) (c.new.ensures, c.requires.first))

pub returns-in-Err-clause-full : goal.returns-in-Err-clause-full
returns-in-Err-clause-full g c =
    let s = c.self-2.inside.replay in
    let same = c.self-2.view_is ∙ c.ready.ensures.same in
    let order = ap (λ (p : Played _). p.order) same ∙ c.requires.start in
    let cut = rw (order, c.self-2.invariant, g.met.M.Allocator.same_rules s.machine, g.met.M.Allocator.same_turns s.machine) at c.in-Err.ensures.err in
    rw (← same) (stopped_by _ _ _ _ c.in-Err.fault cut)
