use Rattle.std.proofs.Common.{refl, sym, ◌∙◌, inl, inr}
use Rattle.part_lock.proofs.board.PartBoardBoard.turn.Goals as goal

pub returns-in-Moved-clause-turned : goal.returns-in-Moved-clause-turned
returns-in-Moved-clause-turned g c = (refl, c.step_at.ensures.seat, c.step_at.ensures.ready, λ w r. (c.in-Moved.ticket, c.in-Moved.ensures.told w r))

pub returns-in-NotYet-clause-turned : goal.returns-in-NotYet-clause-turned
returns-in-NotYet-clause-turned g c = (refl, c.step_at.ensures.seat, c.step_at.ensures.ready, λ w r. c.in-NotYet.ensures.told w r)

pub returns-in-Held-clause-turned : goal.returns-in-Held-clause-turned
returns-in-Held-clause-turned g c = (refl, c.step_at.ensures.seat, c.step_at.ensures.ready, λ w r. c.in-Held.ensures.told w r)

pub returns-in-Full-clause-turned : goal.returns-in-Full-clause-turned
returns-in-Full-clause-turned g c = (refl, c.step_at.ensures.seat, c.step_at.ensures.ready, λ w r. inl (refl, c.in-Full.ticket, c.in-Full.ensures.told w r))

pub returns-in-Memory-clause-turned : goal.returns-in-Memory-clause-turned
returns-in-Memory-clause-turned g c = (refl, c.step_at.ensures.seat, c.step_at.ensures.ready, λ w r. inr (inl (refl, c.in-Memory.ensures.told w r)))

pub returns-in-Halted-clause-turned : goal.returns-in-Halted-clause-turned
returns-in-Halted-clause-turned g c = (refl, c.step_at.ensures.seat, c.step_at.ensures.ready, λ w r. inr (inr (c.in-Some.part.0, sym c.want.ensures ∙ c.in-Some.is, c.in-Halted.ensures.told w r)))
