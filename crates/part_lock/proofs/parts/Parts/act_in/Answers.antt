use Rattle.std.proofs.Common.{◌∙◌, ap, arith}
use Rattle.part_lock.proofs.Asked.{waits_as, lacks_as}
use Rattle.part_lock.proofs.Steps.{placed}
use Rattle.part_lock.proofs.parts.Parts.act_in.Goals as goal

pub judge_held-requires-clause-holds : goal.judge_held-requires-clause-holds
judge_held-requires-clause-holds g c = let (w, x, turn) = c.requires.turn in (x, ap (λ m. m.1) turn.0, turn.4)

pub store-requires : goal.store-requires
store-requires g c = let (w, x, turn) = c.requires.turn in let (x', y, has, next, entries, same, _) = c.judge_held.ensures.same in
    rw (c.word_of-word.ensures) (
      c.judge_held.ensures.seat.0 ∙ c.requires.seat,
      omega (arith, c.args.self.now.sized),
      waits_as g.M.Machine.rules _ _ g.M.Machine.fits _ _ _ w x _ _ _ x' y _ turn has next entries same,
    )

pub store-requires-in-Yields : goal.store-requires-in-Yields
store-requires-in-Yields g c = let (w, x, turn) = c.requires.turn in let (x', y, has, next, entries, same, _) = c.judge_held.ensures.same in
    rw (c.word_of-word.ensures) (
      c.judge_held.ensures.seat.0 ∙ c.requires.seat,
      omega (arith, c.args.self.now.sized),
      waits_as g.M.Machine.rules _ _ g.M.Machine.fits _ _ _ w x _ _ _ x' y _ turn has next entries same,
    )

pub store-requires-in-NoRoom : goal.store-requires-in-NoRoom
store-requires-in-NoRoom g c = let (w, x, turn) = c.requires.turn in let (x', y, has, next, entries, same, _) = c.judge_held.ensures.same in
    rw (c.word_of-word.ensures) (
      c.judge_held.ensures.seat.0 ∙ c.requires.seat,
      omega (arith, c.args.self.now.sized),
      lacks_as g.M.Machine.rules _ _ g.M.Machine.fits _ _ _ w x _ _ _ x' y _ turn has next entries same,
    )

pub act_now-requires-clause-turn : goal.act_now-requires-clause-turn
act_now-requires-clause-turn g c = let (w, x, turn) = c.requires.turn in let (x', y, has, next, entries, same, goes) = c.in-Goes.ensures.same in
    (w, x, y, placed g.M.Machine.rules _ g.M.Machine.fits _ _ _ w x x' y _ _ turn has next entries same goes)

pub returns-in-Goes-clause-acts : goal.returns-in-Goes-clause-acts
returns-in-Goes-clause-acts g c = λ w x turn. let (x', y, has, next, entries, same, goes) = c.in-Goes.ensures.same in
    c.act_now.ensures.acts w x y (placed g.M.Machine.rules _ g.M.Machine.fits _ _ _ w x x' y _ _ turn has next entries same goes)
