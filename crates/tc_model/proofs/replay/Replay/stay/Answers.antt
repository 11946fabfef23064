use Rattle.std.proofs.Common.{refl, arith}
use Rattle.tc_model.proofs.MovingFacts.{moving_all}
use Rattle.tc_model.proofs.ReplayFacts.{run_of, run_pushed, place_below, ready_here, local_in_run}
use Rattle.tc_model.proofs.replay.Replay.stay.Goals as goal

pub stay_at-requires-clause-thread : goal.stay_at-requires-clause-thread
stay_at-requires-clause-thread g c =
    let at = run_of (g.met.M.Machine.sound c.args.self.now.machine) c.args.self.now.is_run c.args.self.now.moves c.args.self.now.few c.args.self.now.most in
    place_below at c.requires.thread

pub stay_at-requires-clause-ready : goal.stay_at-requires-clause-ready
stay_at-requires-clause-ready g c =
    let at = run_of (g.met.M.Machine.sound c.args.self.now.machine) c.args.self.now.is_run c.args.self.now.moves c.args.self.now.few c.args.self.now.most in
    ready_here at c.args.thread

pub index-local-requires : goal.index-local-requires
index-local-requires g c =
    let s = c.args.self.now in
    let at = run_of (g.met.M.Machine.sound s.machine) s.is_run s.moves s.few s.most in
    let pick = c.if-not-stay_at.ensures in
    let next = run_pushed at c.args.thread refl c.requires.few s.most (pick.picked refl) (pick.moved refl) refl in
    let below = place_below next c.requires.thread in
    omega (arith, below, c.stay_at.new.locals.ok)

pub pass-requires-clause-order : goal.pass-requires-clause-order
pass-requires-clause-order g c =
    let s = c.args.self.now in
    let at = run_of (g.met.M.Machine.sound s.machine) s.is_run s.moves s.few s.most in
    let pick = c.if-not-stay_at.ensures in
    let next = run_pushed at c.args.thread c.deref.ensures.value c.requires.few s.most (pick.picked refl) (pick.moved refl) refl in
    next.of

pub pass-requires-clause-local : goal.pass-requires-clause-local
pass-requires-clause-local g c =
    let s = c.args.self.now in
    let at = run_of (g.met.M.Machine.sound s.machine) s.is_run s.moves s.few s.most in
    let pick = c.if-not-stay_at.ensures in
    let next = run_pushed at c.args.thread c.deref.ensures.value c.requires.few s.most (pick.picked refl) (pick.moved refl) refl in
    local_in_run next c.requires.thread c.index-local.ensures

pub invariant_of-self-2-clause-moves : goal.invariant_of-self-2-clause-moves
invariant_of-self-2-clause-moves g c =
    let s = c.args.self.now in
    let at = run_of (g.met.M.Machine.sound s.machine) s.is_run s.moves s.few s.most in
    let pick = c.if-not-stay_at.ensures in
    let next = run_pushed at c.args.thread refl c.requires.few s.most (pick.picked refl) (pick.moved refl) refl in
    rw c.push_reserved.ensures.items (moving_all (g.M.Machine.rules s.machine) _ _ next.of.moves)
