use Rattle.std.proofs.Common.{◌≡◌, ℕ, ◌+◌, ◌<◌, get_or, ◌==◌, List, [], ◌∷◌, ◌++◌, length, take, sym, ap, ◌∙◌, subst, arith}
use Rattle.std.specs.List.{slice_set}
use Rattle.std.specs.Option.{option_to_list}
use Rattle.std.proofs.lemmas.List.{take_more, append-nil, length-take, length-append}
use Rattle.std.proofs.lemmas.List.Sums.{count_by-le-length}
use Rattle.tc_model.specs.Calls.{calls_of}
use Rattle.call_steps.specs.Local.{told}
use Rattle.tc_machine.proofs.TellingFacts.{act_of, AreMarks, first_marks, here_is, next_marks, told_next, told_split}
use Rattle.tc_machine.proofs.telling.tell_calls.Goals as goal
use Rattle.tc_machine.proofs.telling.tell_calls.Goals.{in-Some+in_ok-hear, in_default}

pub loop-thread-init : goal.loop-thread-init
loop-thread-init g c =
    (first_marks g.T.Teller.answers c.args.tellers.now c.in_ok-marks.marks.items c.in_ok-marks.ensures c.requires.rising, c.requires.first, omega arith)

pub offset_bounds-tellers-t : goal.offset_bounds-tellers-t
offset_bounds-tellers-t g c = let below = c.requires.threads c.loop-thread.thread-index 0 c.loop-thread-test.true in omega (arith, below)

pub bounds-tellers-t : goal.bounds-tellers-t
bounds-tellers-t g c = c.requires.threads c.loop-thread.thread-index 0 c.loop-thread-test.true

pub index_mut-requires : goal.index_mut-requires
index_mut-requires g c = omega (arith, c.requires.threads c.loop-thread.thread-index 0 c.loop-thread-test.true, c.loop-thread.invariant.0.count, c.loop-thread.marks.ok)

pub next_line-requires-clause-mark : goal.next_line-requires-clause-mark
next_line-requires-clause-mark g c =
    let t : ℕ = get_or c.args.order.now c.loop-thread.thread-index 0 in
    let below : t < length c.args.tellers.now = c.requires.threads c.loop-thread.thread-index 0 c.loop-thread-test.true in
    let are = c.loop-thread.invariant.0 in
    let local = here_is c.args.tellers.now t c.index-tellers-t.result below c.index-tellers-t.is in
    let mark = here_is c.loop-thread.marks.items t c.index_mut.result.now (omega (arith, below, are.count)) c.index_mut.ensures.value in
    (are.each t c.index-tellers-t.result c.index_mut.result.now local mark).1

pub next_line-requires-clause-few : goal.next_line-requires-clause-few
next_line-requires-clause-few g c =
    let t : ℕ = get_or c.args.order.now c.loop-thread.thread-index 0 in
    let past : List ℕ = take c.loop-thread.thread-index c.args.order.now in
    let below : t < length c.args.tellers.now = c.requires.threads c.loop-thread.thread-index 0 c.loop-thread-test.true in
    let are = c.loop-thread.invariant.0 in
    let local = here_is c.args.tellers.now t c.index-tellers-t.result below c.index-tellers-t.is in
    let mark = here_is c.loop-thread.marks.items t c.index_mut.result.now (omega (arith, below, are.count)) c.index_mut.ensures.value in
    omega (arith, (are.each t c.index-tellers-t.result c.index_mut.result.now local mark).0, count_by-le-length (λ u. u == t) past, length-take c.loop-thread.thread-index c.args.order.now, c.requires.few, c.loop-thread-test.true)

-- the call that the pick decided comes behind those before it
pub hear-requires : goal.hear-requires
hear-requires g c =
    let order = c.args.order.now in
    let locals = c.args.tellers.now in
    let i : ℕ = c.loop-thread.thread-index in
    let t : ℕ = get_or order i 0 in
    let past : List ℕ = take i order in
    let k = c.index-tellers-t.result in
    let m = c.index_mut.result.now in
    let below : t < length locals = c.requires.threads i 0 c.loop-thread-test.true in
    let are = c.loop-thread.invariant.0 in
    let local = here_is locals t k below c.index-tellers-t.is in
    let mark = here_is c.loop-thread.marks.items t m (omega (arith, below, are.count)) c.index_mut.ensures.value in
    let calls = calls_of g.T.Teller.answers act_of told locals in
    let one = ap option_to_list (sym c.in-Some.is) ∙ c.next_line.ensures.line in
    let added = told_next g.T.Teller.answers locals past t m.picks k (c.in-Some.line ∷ []) local (are.each t k m local mark).0 one in
    let split = told_split g.T.Teller.answers locals order i c.in-Some.line c.loop-thread-test.true added in
    (c.args.listener, calls past, c.loop-thread.invariant.1, c.requires.may (calls past) c.in-Some.line split.0 split.1 (omega (arith, c.loop-thread.invariant.2, c.requires.few, c.loop-thread-test.true)))

pub loop-thread-preserved : goal.loop-thread-preserved
loop-thread-preserved g c =
    let order = c.args.order.now in
    let locals = c.args.tellers.now in
    let i : ℕ = c.loop-thread.thread-index in
    let t : ℕ = get_or order i 0 in
    let past : List ℕ = take i order in
    let k = c.index-tellers-t.result in
    let m = c.index_mut.result.now in
    let below : t < length locals = c.requires.threads i 0 c.loop-thread-test.true in
    let are = c.loop-thread.invariant.0 in
    let local = here_is locals t k below c.index-tellers-t.is in
    let mark = here_is c.loop-thread.marks.items t m (omega (arith, below, are.count)) c.index_mut.ensures.value in
    let calls = calls_of g.T.Teller.answers act_of told locals in
    let more : past ++ t ∷ [] ≡ take (i + 1) order = sym (take_more order i 0 c.loop-thread-test.true) in
    let marks : AreMarks g.T.Teller.answers locals (slice_set c.loop-thread.marks.items t c.next_line.new.mark) (take (i + 1) order) = subst (AreMarks g.T.Teller.answers locals (slice_set c.loop-thread.marks.items t c.next_line.new.mark)) more
    (next_marks g.T.Teller.answers locals c.loop-thread.marks.items past t k m c.next_line.new.mark are local mark c.next_line.ensures.picks c.next_line.ensures.mark) in
    let added : calls (past ++ t ∷ []) ≡ calls past ++ option_to_list c.next_line.result =
    told_next g.T.Teller.answers locals past t m.picks k (option_to_list c.next_line.result) local (are.each t k m local mark).0 c.next_line.ensures.line in
    let heard = g.L.Listener.heard c.args.listener in
    elim c.match-next_line.branch [
      | in-Some+in_ok-hear w ↦ grind (
        arith,
        calls (past ++ t ∷ []),
        calls past,
        told_split g.T.Teller.answers locals order i,
        w.in_ok-hear.ensures c.args.listener (calls past) c.loop-thread.invariant.1,
        c.requires.may (calls past),
        calls (take (i + 1) order),
        length-append (calls past),
        heard w.hear.new.self,
      )
      | in_default w ↦ grind (arith, calls past, calls (take (i + 1) order), append-nil (calls past), heard c.loop-thread.listener)
    ]
