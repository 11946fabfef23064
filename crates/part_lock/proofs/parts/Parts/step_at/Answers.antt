use Rattle.std.proofs.Common.{◌∙◌, ap, refl, arith}
use Rattle.part_lock.specs.Lock.{hold, at_view, saw}
use Rattle.part_lock.proofs.Asked.{sees_as}
use Rattle.part_lock.proofs.Steps.{part_there, told, rests, seen_now, in_turn, ready_again}
use Rattle.part_lock.proofs.parts.Parts.step_at.Goals as goal

pub load-halt-requires : goal.load-halt-requires
load-halt-requires g c = let (w, ready) = c.requires.ready in
    (c.requires.seat, omega (arith, c.args.self.now.sized), sees_as g.M.Machine.rules _ _ _ _ w g.M.Machine.fits (g.met.M.Machine.sound _) ready.0 ready.1 ready.2)

pub take_turn-requires-clause-free : goal.take_turn-requires-clause-free
take_turn-requires-clause-free g c = let (w, ready) = c.requires.ready in
    (w, (seen_now g.M.Machine.rules _ _ c.load-halt.result _ _ w _ _ (omega (arith, c.if-halt-ne0)) ready c.load-halt.ensures.2).0, ready.1, ready.3)

pub act_in-answer-requires-clause-turn : goal.act_in-answer-requires-clause-turn
act_in-answer-requires-clause-turn g c = let (w, ready) = c.requires.ready in let (x, next, finds) = c.take_turn.ensures.took in
    (w, x, in_turn g.M.Machine.rules _ _ c.load-halt.result _ _ w _ _ (omega (arith, c.if-halt-ne0)) ready c.load-halt.ensures.2 g.M.Machine.fits _ x _ next finds c.requires.wants)

pub set_halt-requires-clause-idle : goal.set_halt-requires-clause-idle
set_halt-requires-clause-idle g c = let (w, ready) = c.requires.ready in let (x, next, finds) = c.take_turn.ensures.took in
    let turn = in_turn g.M.Machine.rules _ _ c.load-halt.result _ _ w _ _ (omega (arith, c.if-halt-ne0)) ready c.load-halt.ensures.2 g.M.Machine.fits _ x _ next finds c.requires.wants in
    rests g.M.Machine.rules _ w _ _ (hold c.args.part.0 x) _ _ (c.act_in-answer.ensures.acts w x turn)

pub returns-clause-told : goal.returns-clause-told
returns-clause-told g c = λ w ready. let (x, next, finds) = c.take_turn.ensures.took in
    let turn = in_turn g.M.Machine.rules _ _ c.load-halt.result _ _ w _ _ (omega (arith, c.if-halt-ne0)) ready c.load-halt.ensures.2 g.M.Machine.fits _ x _ next finds c.requires.wants in
    told g.M.Machine.rules _ w _ _ (hold c.args.part.0 x) _ _ _ (c.act_in-answer.ensures.acts w x turn) c.set_halt.ensures.me

pub returns-clause-ready : goal.returns-clause-ready
returns-clause-ready g c = let (w, ready) = c.requires.ready in let (x, next, finds) = c.take_turn.ensures.took in
    let turn = in_turn g.M.Machine.rules _ _ c.load-halt.result _ _ w _ _ (omega (arith, c.if-halt-ne0)) ready c.load-halt.ensures.2 g.M.Machine.fits _ x _ next finds c.requires.wants in
    let tells = told g.M.Machine.rules _ w _ _ (hold c.args.part.0 x) _ _ _ (c.act_in-answer.ensures.acts w x turn) c.set_halt.ensures.me in
    ready_again g.M.Machine.rules _ w c.args.local.now _ _ _ _ _ ready tells

pub returns-then-halt-ne0-clause-ready : goal.returns-then-halt-ne0-clause-ready
returns-then-halt-ne0-clause-ready g c = let (w, ready) = c.requires.ready in let see = c.load-halt.ensures.2 in
    (saw c.load-halt.result w, (see.0 ∙ ap (λ m. (at_view (saw c.load-halt.result) m.0, m.1)) ready.0, ready.1, refl, ready.3, ready.4, ready.5, ready.6))

pub take_turn-requires-clause-part : goal.take_turn-requires-clause-part
take_turn-requires-clause-part g c = let (w, ready) = c.requires.ready in part_there g.M.Machine.rules _ _ c.load-halt.result _ _ _ w _ _ ready c.load-halt.ensures.2 c.requires.wants
