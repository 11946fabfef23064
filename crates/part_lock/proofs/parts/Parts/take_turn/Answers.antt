use Rattle.std.proofs.Common.{◌∙◌}
use Rattle.part_lock.proofs.parts.Parts.take_turn.Goals as goal

pub try_take-requires-clause-free : goal.try_take-requires-clause-free
try_take-requires-clause-free g c = let q = c.requires.free in (q.0, c.loop.invariant.me ∙ q.1, q.2, q.3)

pub returns-then-try_take-clause-took : goal.returns-then-try_take-clause-took
returns-then-try_take-clause-took g c = rw c.loop.invariant.me at (c.try_take.ensures.took c.if-try_take.true)
