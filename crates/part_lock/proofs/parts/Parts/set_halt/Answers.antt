use Rattle.std.proofs.Common.{◌∙◌, sym, arith}
use Rattle.part_lock.proofs.Asked.{sets_as}
use Rattle.part_lock.proofs.parts.Parts.set_halt.Goals as goal

pub fetch_max-requires : goal.fetch_max-requires
fetch_max-requires g c = let (w, is, idle, cause) = c.requires.idle in
    let set = cause (omega (arith, c.number_of-cause.ensures, c.if-cause-ne0)) ∙ sym c.number_of-cause.ensures in
    (c.requires.seat, omega (arith, c.args.self.now.sized), sets_as g.M.Machine.rules _ _ _ _ w _ is idle set)
