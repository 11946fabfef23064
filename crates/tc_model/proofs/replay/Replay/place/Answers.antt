use Rattle.std.proofs.Common.{arith}
use Rattle.tc_model.specs.Run.{run}
use Rattle.tc_model.proofs.ReplayFacts.{run_of, place_below, local_in_run, stepped_ended}
use Rattle.tc_model.proofs.Stays.{at_wanted}
use Rattle.tc_model.proofs.replay.Replay.place.Goals as goal

pub index-requires : goal.index-requires
index-requires g c =
    let at = run_of (g.met.M.Machine.sound c.args.self.now.machine) c.args.self.now.is_run c.args.self.now.moves c.args.self.now.few c.args.self.now.most in
    let below = place_below at c.requires in
    omega (arith, below, c.args.self.now.locals.ok)

pub returns-clause-at : goal.returns-clause-at
returns-clause-at g c =
    let at = run_of (g.met.M.Machine.sound c.args.self.now.machine) c.args.self.now.is_run c.args.self.now.moves c.args.self.now.few c.args.self.now.most in
    at_wanted (g.M.Machine.rules c.args.self.now.machine) (run (g.M.Machine.rules c.args.self.now.machine) c.args.self.now.order.items) c.args.thread (local_in_run at c.requires c.index.ensures) c.want.result c.want.ensures

pub returns-clause-ended : goal.returns-clause-ended
returns-clause-ended g c =
    let at = run_of (g.met.M.Machine.sound c.args.self.now.machine) c.args.self.now.is_run c.args.self.now.moves c.args.self.now.few c.args.self.now.most in
    stepped_ended at c.requires c.index.ensures c.want.ensures
