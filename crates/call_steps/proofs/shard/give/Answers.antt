use Rattle.std.proofs.Common.{sym, ap, ◌∙◌, subst}
use Rattle.std.specs.Prelude.{All}
use Rattle.central_free.specs.Central.{IsTakenIn}
use Rattle.call_steps.specs.Local.{Local}
use Rattle.call_steps.proofs.shard.give.Goals as goal

pub give-requires-clause-taken : goal.give-requires-clause-taken
give-requires-clause-taken g c = subst (All (IsTakenIn c.args.shard.now.central.spans)) (ap (λ (m : Local g.row.F-Seat.Denot g.row.F-Row.Denot). m.regs.hand.items) (sym c.local.view_is) ∙ sym c.as_slice.ensures) c.requires.fits.taken
