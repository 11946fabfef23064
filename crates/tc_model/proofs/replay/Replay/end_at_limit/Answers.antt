use Rattle.std.proofs.Common.{refl}
use Rattle.tc_model.proofs.CutShort.{short_at_limit}
use Rattle.tc_model.proofs.ReplayFacts.{run_of}
use Rattle.tc_model.proofs.replay.Replay.end_at_limit.Goals as goal

pub returns-else-ended-clause-err : goal.returns-else-ended-clause-err
returns-else-ended-clause-err g c =
    let s = c.args.self.now in
    let r = g.M.Machine.rules s.machine in
    let at = run_of (g.met.M.Machine.sound s.machine) s.is_run s.moves s.few s.most in
    short_at_limit r (g.M.Serial.turns s.machine) s.limit s.order.items _ c.requires s.few refl at.of (g.met.M.Serial.never_waits s.machine) (g.met.M.Serial.ends s.machine)
    (λ all. let ended = c.ended.ensures.1 all in cc)
