use Rattle.std.proofs.Common.{◌<◌, length, refl, sym, ap, arith}
use Rattle.std.specs.List.{slice_set}
use Rattle.std.proofs.lemmas.Option.{slice_get_read}
use Rattle.tc_model.specs.Steps.{acted}
use Rattle.tc_model.proofs.Picks.{ready_at, there_within, there_fits, picked_try}
use Rattle.tc_model.proofs.StepFacts.{stepped_try}
use Rattle.tc_model.proofs.Stays.{wants_there, at_still, done_still}
use Rattle.tc_model.proofs.replay.stay_at.Goals as goal

pub index_mut-requires : goal.index_mut-requires
index_mut-requires g c =
    let r = g.M.Machine.rules c.args.machine.now in
    let wants = wants_there r c.args.parts.now.items c.args.locals.now.items c.requires.thread c.index_mut-local.ensures.value c.requires.place in
    let there = ready_at r c.requires.thread c.requires.ready c.index_mut-local.ensures.value wants refl in
    let within : c.args.place.0 < length c.args.parts.now.items = there_within there in
    omega (arith, within, c.args.parts.now.ok)

pub stay-requires : goal.stay-requires
stay-requires g c =
    let r = g.M.Machine.rules c.args.machine.now in
    let wants = wants_there r c.args.parts.now.items c.args.locals.now.items c.requires.thread c.index_mut-local.ensures.value c.requires.place in
    let there = ready_at r c.requires.thread c.requires.ready c.index_mut-local.ensures.value wants refl in
    there_fits there c.index_mut.ensures.value

pub returns-clause-picked : goal.returns-clause-picked
returns-clause-picked g c goes =
    let r = g.M.Machine.rules c.args.machine.now in
    let wants = wants_there r c.args.parts.now.items c.args.locals.now.items c.requires.thread c.index_mut-local.ensures.value c.requires.place in
    let there = ready_at r c.requires.thread c.requires.ready c.index_mut-local.ensures.value wants refl in
    picked_try r c.requires.thread c.index_mut-local.ensures.value wants refl there c.index_mut.ensures.value (c.stay.ensures.part goes) (c.stay.ensures.local goes)

pub returns-clause-moved : goal.returns-clause-moved
returns-clause-moved g c goes =
    let r = g.M.Machine.rules c.args.machine.now in
    let wants = wants_there r c.args.parts.now.items c.args.locals.now.items c.requires.thread c.index_mut-local.ensures.value c.requires.place in
    let there = ready_at r c.requires.thread c.requires.ready c.index_mut-local.ensures.value wants refl in
    stepped_try r c.requires.thread c.index_mut-local.ensures.value wants refl there c.index_mut.ensures.value (sym (ap acted (c.stay.ensures.goes goes)))

pub returns-clause-place : goal.returns-clause-place
returns-clause-place g c =
    let here = slice_get_read c.args.locals.now.items _ c.args.thread _ refl c.requires.thread c.index_mut-local.ensures.value in
    at_still (g.M.Machine.rules c.args.machine.now) c.args.locals.now.items c.args.thread here (slice_set c.args.parts.now.items c.args.place.0 c.stay.new._part) (c.requires.place _ here) c.stay.result c.stay.ensures.stays (λ none. (c.stay.ensures.same none).1)

pub returns-clause-ended : goal.returns-clause-ended
returns-clause-ended g c =
    let here = slice_get_read c.args.locals.now.items _ c.args.thread _ refl c.requires.thread c.index_mut-local.ensures.value in
    done_still (g.M.Machine.rules c.args.machine.now) c.args.locals.now.items c.args.thread here c.args.parts.now.items (slice_set c.args.parts.now.items c.args.place.0 c.stay.new._part) c.stay.result c.stay.ensures.ended (λ none. (c.stay.ensures.same none).1)
