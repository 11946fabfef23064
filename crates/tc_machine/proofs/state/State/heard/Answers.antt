use Rattle.std.proofs.Common.{subst, sym, arith}
use Rattle.tc_model.specs.Sound.{IsOrder}
use Rattle.tc_model.proofs.MovingFacts.{move_all}
use Rattle.tc_machine.proofs.state.State.heard.Goals as goal

pub totals-requires-clause-order : goal.totals-requires-clause-order
totals-requires-clause-order g c =
    let s = c.self.inside.replay in
    let m = g.M.Machine.rules s.machine in
    subst (IsOrder m) (sym c.deref-2.ensures.value) (record { moves = move_all m s.order.items s.moves; few = omega (arith, s.few, s.most) })

pub returns-clause-blocks : goal.returns-clause-blocks
returns-clause-blocks g c =
    let s = c.self.inside.replay in
    let m = g.M.Machine.rules s.machine in
    rw (← c.self.view_is) (g.met.M.Decides.on_blocks s.machine s.order.items (record { moves = move_all m s.order.items s.moves; few = omega (arith, s.few, s.most) }))

pub returns-clause-scripts : goal.returns-clause-scripts
returns-clause-scripts g c =
    let s = c.self.inside.replay in
    let m = g.M.Machine.rules s.machine in
    let ended = rw (← c.self.view_is, ← g.met.M.Allocator.same_rules s.machine) at c.requires.ended in
    rw (← c.self.view_is) (g.met.M.Decides.tells_scripts s.machine s.order.items (record { moves = move_all m s.order.items s.moves; few = omega (arith, s.few, s.most) }) ended)
