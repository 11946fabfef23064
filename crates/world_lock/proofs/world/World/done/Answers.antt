use Rattle.std.proofs.Common.{◌≡◌, subst}
use Rattle.tc_model.specs.Input.{Input}
use Rattle.tc_model.specs.Run.{run}
use Rattle.tc_model.specs.Replays.{done_in}
use Rattle.cpu_rows.specs.Machine as allocator
use Rattle.world_lock.specs.Locked.{Locked}
use Rattle.world_lock.proofs.world.World.done.Goals as goal

pub returns : goal.returns
returns g c =
    subst (λ (w : Locked). c.done.result ≡ done_in (allocator.rules g.N.Named.input) (run (allocator.rules g.N.Named.input) w.order) c.args.thread.0) c.self.view_is
    (subst (λ (i : Input). c.done.result ≡ done_in (allocator.rules i) (run (allocator.rules i) c.self.inside.state.order) c.args.thread.0) c.self.invariant.0 c.done.ensures)
