use Rattle.std.proofs.Common.{◌<◌, length, refl, sym, ap, ◌∙◌, arith}
use Rattle.tc_model.proofs.Picks.{ready_at, there_within, there_fits, picked_try}
use Rattle.tc_model.proofs.StepFacts.{as_step, stepped_try}
use Rattle.tc_model.proofs.Stays.{wants_there}
use Rattle.tc_model.proofs.replay.pick_at.Goals as goal

pub index_mut-requires : goal.index_mut-requires
index_mut-requires g c =
    let r = g.M.Machine.rules c.args.machine.now in
    let wants = wants_there r c.args.parts.now.items c.args.locals.now.items c.requires.thread c.index_mut-local.ensures.value c.requires.place in
    let within : c.args.place.0 < length c.args.parts.now.items = there_within (ready_at r c.requires.thread c.requires.ready c.index_mut-local.ensures.value wants refl) in
    omega (arith, within, c.args.parts.now.ok)

pub act-requires : goal.act-requires
act-requires g c =
    let r = g.M.Machine.rules c.args.machine.now in
    let wants = wants_there r c.args.parts.now.items c.args.locals.now.items c.requires.thread c.index_mut-local.ensures.value c.requires.place in
    there_fits (ready_at r c.requires.thread c.requires.ready c.index_mut-local.ensures.value wants refl) c.index_mut.ensures.value

pub returns-in-Moved-clause-picked : goal.returns-in-Moved-clause-picked
returns-in-Moved-clause-picked g c =
    let r = g.M.Machine.rules c.args.machine.now in
    let wants = wants_there r c.args.parts.now.items c.args.locals.now.items c.requires.thread c.index_mut-local.ensures.value c.requires.place in
    let there = ready_at r c.requires.thread c.requires.ready c.index_mut-local.ensures.value wants refl in
    picked_try r c.requires.thread c.index_mut-local.ensures.value wants refl there c.index_mut.ensures.value c.in_ok-act.ensures.part c.in_ok-act.ensures.local

pub returns-in-Moved-clause-answer : goal.returns-in-Moved-clause-answer
returns-in-Moved-clause-answer g c =
    let r = g.M.Machine.rules c.args.machine.now in
    let wants = wants_there r c.args.parts.now.items c.args.locals.now.items c.requires.thread c.index_mut-local.ensures.value c.requires.place in
    let there = ready_at r c.requires.thread c.requires.ready c.index_mut-local.ensures.value wants refl in
    ap as_step (sym c.in-Moved.is) ∙ stepped_try r c.requires.thread c.index_mut-local.ensures.value wants refl there c.index_mut.ensures.value c.in_ok-act.ensures.answer

pub returns-in-NotYet-clause-picked : goal.returns-in-NotYet-clause-picked
returns-in-NotYet-clause-picked g c =
    let r = g.M.Machine.rules c.args.machine.now in
    let wants = wants_there r c.args.parts.now.items c.args.locals.now.items c.requires.thread c.index_mut-local.ensures.value c.requires.place in
    let there = ready_at r c.requires.thread c.requires.ready c.index_mut-local.ensures.value wants refl in
    picked_try r c.requires.thread c.index_mut-local.ensures.value wants refl there c.index_mut.ensures.value c.in_ok-act.ensures.part c.in_ok-act.ensures.local

pub returns-in-NotYet-clause-answer : goal.returns-in-NotYet-clause-answer
returns-in-NotYet-clause-answer g c =
    let r = g.M.Machine.rules c.args.machine.now in
    let wants = wants_there r c.args.parts.now.items c.args.locals.now.items c.requires.thread c.index_mut-local.ensures.value c.requires.place in
    let there = ready_at r c.requires.thread c.requires.ready c.index_mut-local.ensures.value wants refl in
    ap as_step (sym c.in-NotYet.is) ∙ stepped_try r c.requires.thread c.index_mut-local.ensures.value wants refl there c.index_mut.ensures.value c.in_ok-act.ensures.answer
