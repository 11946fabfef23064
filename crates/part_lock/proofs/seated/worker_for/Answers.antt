use Rattle.std.proofs.Common.{refl, ◌∙◌}
use Rattle.part_lock.proofs.seated.worker_for.Goals as goal

pub returns-clause-ready : goal.returns-clause-ready
returns-clause-ready g c = (refl, (c.seat-seat.ensures.seat.1 ∙ c.requires.seat, c.seat-seat.ensures.worker c.args.local c.requires.start))
