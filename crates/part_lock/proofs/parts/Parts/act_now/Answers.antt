use Rattle.std.proofs.Common.{◌∙◌, arith}
use Rattle.part_lock.proofs.Asked.{draw_in, full_in, fail_in, give_in}
use Rattle.part_lock.proofs.Steps.{goes_on}
use Rattle.part_lock.proofs.parts.Parts.act_now.Goals as goal

pub fetch_add-ticket-requires : goal.fetch_add-ticket-requires
fetch_add-ticket-requires g c = let (w, x, y, place) = c.requires.turn in
    (c.requires.seat, omega (arith, c.args.self.now.sized), draw_in g.M.Machine.rules _ _ g.M.Machine.fits _ _ _ w x _ _ _ y place)

pub store-requires : goal.store-requires
store-requires g c = let (w, x, y, place) = c.requires.turn in let drew = c.fetch_add-ticket.ensures in rw (c.word_of-word.ensures) (
  drew.0 ∙ c.requires.seat,
  omega (arith, c.args.self.now.sized),
  full_in g.M.Machine.rules _ _ g.M.Machine.fits _ _ _ w x _ _ _ y place c.fetch_add-ticket.result _ drew.2 (omega arith),
)

pub act_held-requires-clause-holds : goal.act_held-requires-clause-holds
act_held-requires-clause-holds g c = let (w, x, y, place) = c.requires.turn in
    goes_on g.M.Machine.rules _ g.M.Machine.fits _ _ _ w x c.args.self.now.table.shared.table_id.slots c.fetch_add-ticket.result y _ _ place c.fetch_add-ticket.ensures.2 (omega arith)

pub store-requires-then-not-act_held : goal.store-requires-then-not-act_held
store-requires-then-not-act_held g c =
    let (w, x, y, place) = c.requires.turn in let drew = c.fetch_add-ticket.ensures in
    let (x', z, has, next, _, kept) = c.act_held.ensures.done in let (entries, same, _) = kept c.if-not-act_held.true in rw (c.word_of-word.ensures) (
      c.act_held.ensures.seat.0 ∙ (drew.0 ∙ c.requires.seat),
      omega (arith, c.args.self.now.sized),
      fail_in g.M.Machine.rules _ _ g.M.Machine.fits _ _ _ w x _ _ _ y place c.fetch_add-ticket.result _ drew.2 x' z _ (omega arith) has next entries same,
    )

pub store-requires-2 : goal.store-requires-2
store-requires-2 g c =
    let (w, x, y, place) = c.requires.turn in let drew = c.fetch_add-ticket.ensures in
    let (x', z, has, next, moved, _) = c.act_held.ensures.done in let (longer, acted, _) = moved c.if-not-act_held.false in rw (c.word_of-word.ensures) (
      c.act_held.ensures.seat.0 ∙ (drew.0 ∙ c.requires.seat),
      omega (arith, c.args.self.now.sized),
      give_in g.M.Machine.rules _ _ g.M.Machine.fits _ _ _ w x _ _ _ y place c.fetch_add-ticket.result _ drew.2 x' z _ (omega arith) has next longer acted,
    )
