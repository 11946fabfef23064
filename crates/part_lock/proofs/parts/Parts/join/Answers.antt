use Rattle.std.proofs.Common.{◌∙◌, ap, arith}
use Rattle.part_lock.specs.Lock.{joined}
use Rattle.part_lock.proofs.Asked.{joins_as}
use Rattle.part_lock.proofs.parts.Parts.join.Goals as goal

pub join_seat-requires : goal.join_seat-requires
join_seat-requires g c = let q = c.requires.main in let r = c.requires.worker in
    (c.requires.seat.0, c.requires.seat.1, ap (λ m. m.1) r.1, omega (arith, c.args.self.now.sized), joins_as g.M.Machine.rules _ _ _ q.0 _ _ r.0 (ap (λ m. m.0) q.1.0) (ap (λ m. m.0) r.1) r.2)

pub returns-clause-main : goal.returns-clause-main
returns-clause-main g c = λ m w is by. (c.join_seat.ensures.2 ∙ (λ j. (joined ((is.0 j).0) ((by j).0), (is.0 j).1)), is.1, is.2)
