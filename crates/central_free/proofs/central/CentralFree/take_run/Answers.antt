use Rattle.std.proofs.Common.{◌≡◌, ◌<◌, ℕ, List, ◌++◌, length, get_or, set, Some, sym, ◌∙◌, ap, subst, arith}
use Rattle.std.specs.Prelude.{All}
use Rattle.std.proofs.lemmas.List.{get_or-set_same, length-set}
use Rattle.std.proofs.lemmas.Option.{same_Some}
use Rattle.tc_units.specs.declared.units.Addr.{Addr}
use Rattle.tc_units.specs.declared.spans.ClassRow.{ClassRow}
use Rattle.span_list.specs.Span.{SpanState, IsCut}
use Rattle.central_free.specs.Central.{Central, taken, taken_one, IsSound, IsTakenIn, AreDifferent}
use Rattle.central_free.specs.Runs.{span_after, given_by}
use Rattle.central_free.specs.Slots.{spans_of}
use Rattle.central_free.proofs.ChoiceFacts.{chosen_none, no_free-weight}
use Rattle.central_free.proofs.SoundFacts.{count-set}
use Rattle.central_free.proofs.SlotFacts.{StandsAt, placed_at, slot_at-set, spans_of-set, IsKept-set, best_none-spans, best_place}
use Rattle.central_free.proofs.PutFacts.{kept-set, taken-set, fresh-set}
use Rattle.central_free.proofs.RunFacts.{span-span_after}
use Rattle.central_free.proofs.TakeRuns.{run-taken}
use Rattle.central_free.proofs.TookFacts.{taken_one_from}
use Rattle.central_free.proofs.central.CentralFree.take_run.Goals as goal

abbrev central_of : ClassRow → List SpanState → Central
central_of row spans = record { row = row; spans = spans }

pub returns-in_default-clause-none : goal.returns-in_default-clause-none
returns-in_default-clause-none c = λ _.
    let (sound, kept) = c.self.invariant in let spans = spans_of c.self.inside.slots.slots c.self.inside.order.entries in
    let none = chosen_none spans (λ j d less. no_free-weight (get_or spans j d) (sound.of_row j d less).taken (best_none-spans kept c.in_default.ensures j d less)) in
    ap (λ t. taken_one t.spans) (sym c.self.view_is) ∙ ap (taken_one_from spans) none

-- the spans before and after, and how many objects came
abbrev old : goal.After-set → List SpanState
old c = spans_of c.self.inside.slots.slots c.self.inside.order.entries

abbrev now : goal.After-set → List SpanState
now c = spans_of (set c.self.inside.slots.slots c.in-Some.slot (Some c.take_some-came.new.span)) c.self.inside.order.entries

abbrev gave : goal.After-set → List Addr
gave c = given_by c.take_some-came.result c.index_mut.result.now

-- where the span stands that is taken from
standing : (c : goal.After-set) → (j : ℕ) × StandsAt c.self.inside.slots.slots c.self.inside.order.entries c.in-Some.slot c.index_mut.result.now j
standing c = let (sound, kept) = c.self.invariant in placed_at kept sound c.in-Some.slot c.index_mut.result.now c.index_mut.ensures.value

after : (c : goal.After-set) → now c ≡ set (old c) (standing c).0 c.take_some-came.new.span
after c = spans_of-set (standing c).1 c.take_some-came.new.span

-- what the definition makes of as many takes
run : (c : goal.After-set) → (taken c.take_some-came.result (old c) ≡ record { objects = gave c; spans = set (old c) (standing c).0 (span_after c.take_some-came.result c.index_mut.result.now) })
    × IsSound (record { row = c.self.inside.row; spans = set (old c) (standing c).0 (span_after c.take_some-came.result c.index_mut.result.now) })
run c =
    let (sound, kept) = c.self.invariant in let (j, at) = standing c in
    run-taken sound j c.index_mut.result.now at.listed at.span (best_place kept sound c.in-Some.ensures at) c.take_some-came.result (omega (arith, c.take_some-came.ensures.count))

objects : (c : goal.After-set) → (taken c.take_some-came.result c.args.self.now.spans).objects ≡ gave c
objects c =
    ap (λ t. (taken c.take_some-came.result t.spans).objects) (sym c.self.view_is) ∙ ap (λ t. t.objects) (run c).0

left : (c : goal.After-set) → now c ≡ set (old c) (standing c).0 (span_after c.take_some-came.result c.index_mut.result.now)
left c = after c ∙ ap (set (old c) (standing c).0) c.take_some-came.ensures.span

spans : (c : goal.After-set) → now c ≡ (taken c.take_some-came.result c.args.self.now.spans).spans
spans c = left c ∙ ap (λ t. t.spans) (sym (run c).0) ∙ ap (λ t. (taken c.take_some-came.result t.spans).spans) c.self.view_is

sound : (c : goal.After-set) → IsSound (record { row = c.self.inside.row; spans = now c })
sound c = subst (λ (xs : List SpanState). IsSound (record { row = c.self.inside.row; spans = xs })) (sym (left c)) (run c).1

same_span : (c : goal.After-set) → c.take_some-came.new.span.span ≡ c.index_mut.result.now.span
same_span c = ap (λ u. u.span) c.take_some-came.ensures.span ∙ span-span_after c.take_some-came.result c.index_mut.result.now

pub invariant_of-self : goal.invariant_of-self
invariant_of-self c =
    let k = c.in-Some.slot in let s : SpanState = c.index_mut.result.now in let t : SpanState = c.take_some-came.new.span in
    let read : c.index.result.now ≡ t = same_Some c.index.result.now t (sym c.index.ensures ∙ slot_at-set c.self.inside.slots.slots k s t c.index_mut.ensures.value) in
    (sound c, rw (c.set.ensures, c.standing_of.ensures, read) (IsKept-set c.self.invariant.1 k s t c.index_mut.ensures.value (same_span c)))

pub returns-clause-spans : goal.returns-clause-spans
returns-clause-spans c = ap (central_of c.self.inside.row) (spans c) ∙ ap (λ t. central_of t.row (taken c.take_some-came.result c.args.self.now.spans).spans) c.self.view_is

pub returns-clause-out : goal.returns-clause-out
returns-clause-out c = c.take_some-came.ensures.out ∙ ap (λ xs. c.args.out.now.items ++ xs) (sym (objects c))

pub returns-clause-count : goal.returns-clause-count
returns-clause-count c = ap length (objects c) ∙ c.take_some-came.ensures.came

pub returns-clause-sound : goal.returns-clause-sound
returns-clause-sound c = sound c

pub returns-clause-given : goal.returns-clause-given
returns-clause-given c =
    let (j, at) = standing c in let t : SpanState = c.take_some-came.new.span in
    let all : All (IsTakenIn (set (old c) j t)) (gave c) = λ k d within. taken-set (old c) j t (get_or (gave c) k d) at.listed (c.take_some-came.ensures.given k d within) in
    subst (All (IsTakenIn (now c))) (sym (objects c)) (subst (λ (xs : List SpanState). All (IsTakenIn xs) (gave c)) (sym (after c)) all)

pub returns-clause-fresh : goal.returns-clause-fresh
returns-clause-fresh c =
    let (j, at) = standing c in let s : SpanState = c.index_mut.result.now in let t : SpanState = c.take_some-came.new.span in
    let Q : Central → Type 0 = λ u. All (λ a. IsTakenIn u.spans a → ⊥) (gave c) in
    let within : j < length (set (old c) j (span_after c.take_some-came.result s)) = omega (arith, at.listed, length-set (old c) j (span_after c.take_some-came.result s)) in
    let placed : get_or (set (old c) j (span_after c.take_some-came.result s)) j t ≡ t =
    ap (λ u. get_or (set (old c) j u) j t) (sym c.take_some-came.ensures.span) ∙ get_or-set_same (old c) j t t at.listed in
    let cut : IsCut t = subst IsCut placed ((run c).1.of_row j t within).cut in
    let all : Q (central_of c.self.inside.row (old c)) = λ k d within.
    fresh-set c.self.invariant.0 j s t (get_or (gave c) k d) at.listed at.span (same_span c) cut (c.take_some-came.ensures.given k d within) (c.take_some-came.ensures.fresh k d within) in
    subst (All (λ a. IsTakenIn c.args.self.now.spans a → ⊥)) (sym (objects c)) (subst Q c.self.view_is all)

pub returns-clause-different : goal.returns-clause-different
returns-clause-different c = subst AreDifferent (sym (objects c)) c.take_some-came.ensures.different

pub returns-clause-kept : goal.returns-clause-kept
returns-clause-kept c = λ a there.
    let (j, at) = standing c in let s : SpanState = c.index_mut.result.now in
    let was : IsTakenIn (old c) a = subst (λ (t : Central). IsTakenIn t.spans a) (sym c.self.view_is) there in
    subst (λ (xs : List SpanState). IsTakenIn xs a) (sym (after c)) (kept-set (old c) j s c.take_some-came.new.span a at.listed (sym (at.span s)) (c.take_some-came.ensures.kept a) was)

pub returns-clause-moves : goal.returns-clause-moves
returns-clause-moves c = grind (arith, standing c, count-set, after c, c.take_some-came.ensures.moves)
