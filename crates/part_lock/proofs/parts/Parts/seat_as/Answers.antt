use Rattle.std.proofs.Common.{◌≡◌, ◌<◌, ◌∙◌, refl, ap, subst, sym, arith, Some}
use Rattle.std.specs.List.{slice_get}
use Rattle.part_lock.specs.Lock.{seated, fresh_work}
use Rattle.part_lock.proofs.Asked.{splits_as}
use Rattle.part_lock.proofs.Steps.{newcomer_is}
use Rattle.part_lock.proofs.parts.Parts.seat_as.Goals as goal

pub split_seat-requires : goal.split_seat-requires
split_seat-requires g c = let q = c.requires.main in let t = g.T.Pick.thread in
    let begins = subst (λ z. slice_get (g.M.Machine.rules z).locals t ≡ Some q.1) (sym q.2.1) q.3 in
    (c.requires.seat, omega (arith, c.args.self.now.sized), splits_as g.M.Machine.rules _ _ _ q.0 t q.1 (ap (λ m. m.0) q.2.0) (let low : t < 256 = omega (arith, c.requires.thread) in low) begins q.4)

pub returns-clause-main : goal.returns-clause-main
returns-clause-main g c = λ m is. (c.split_seat.ensures.2 ∙ (λ j. (seated g.T.Pick.thread (is.0 j).0, (is.0 j).1)), is.1, is.2)

pub returns-clause-worker : goal.returns-clause-worker
returns-clause-worker g c = λ l begins. let q = c.requires.main in let t = g.T.Pick.thread in
    let knows = newcomer_is g.M.Machine.rules c.args.self.now.key t q.0 l _ _ (ap (λ m. m.0) q.2.0) q.2.1 begins c.split_seat.ensures.4 in
    (fresh_work t l q.0, (knows, refl, refl, refl, refl, q.2.1, q.2.2))

pub returns-clause-fresh : goal.returns-clause-fresh
returns-clause-fresh g c = let q = c.requires.main in let t = g.T.Pick.thread in
    let knows = newcomer_is g.M.Machine.rules c.args.self.now.key t q.0 q.1 _ _ (ap (λ m. m.0) q.2.0) q.2.1 q.3 c.split_seat.ensures.4 in
    (fresh_work t q.1 q.0, knows, refl, refl, refl)
