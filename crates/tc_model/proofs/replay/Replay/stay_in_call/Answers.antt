use Rattle.std.proofs.Common.{◌≡◌, ◌≤◌, [], ◌∷◌, length, arith, refl, ◌∙◌}
use Rattle.std.proofs.lemmas.List.{length-append}
use Rattle.tc_model.proofs.ReplayFacts.{run_of}
use Rattle.tc_model.proofs.Readings.{step_next}
use Rattle.tc_model.proofs.replay.Replay.stay_in_call.Goals as goal

pub loop-pick-preserved : goal.loop-pick-preserved
loop-pick-preserved g c =
    let s = c.loop-pick.self in
    let at = run_of (g.met.M.Machine.sound s.machine) s.is_run s.moves s.few s.most in
    let here = c.loop-pick.invariant in
    let same : c.stay.new.self.limit ≡ c.args.self.now.limit = c.stay.ensures.limit ∙ here.limit in
    let few : length c.stay.new.self.order.items ≤ c.args.self.now.limit = omega (arith, c.stay.new.self.few, same) in
    let n = step_next g.M.Machine.rules g.M.Serial.turns c.args.self.now.order.items here.machine (g.met.M.Serial.never_waits c.args.self.now.machine) (g.met.M.Serial.rises c.args.self.now.machine) at.of c.requires.within c.requires.thread c.requires.before c.requires.ended here.rises refl here.late (c.if-not-stay.ensures.moved refl) (c.if-not-stay.ensures.order refl) few in
    grind (arith, n.rises, here.rises, length-append s.order.items (c.args.thread ∷ []))
