use Rattle.std.proofs.Common.{◌<◌, ℕ, length, get_or, sym, ◌∙◌, subst, inl, inr, arith}
use Rattle.std.specs.Prelude.{All}
use Rattle.std.proofs.lemmas.List.{length-map}
use Rattle.std.proofs.lemmas.Option.{none-some}
use Rattle.std.proofs.lemmas.Bool.{cases_lt}
use Rattle.span_list.specs.Span.{SpanState}
use Rattle.central_free.specs.Central.{Central, IsApartFrom}
use Rattle.central_free.specs.Slots.{span_at, spans_of, IsFiled}
use Rattle.central_free.proofs.SlotFacts.{nobody, span_of_place}
use Rattle.central_free.proofs.central.tests.is_clear.Goals as goal

pub returns : goal.returns
returns c =
    let slots = c.central.inside.slots.slots in
    let entries = c.central.inside.order.entries in
    let kept = c.central.invariant.1 in
    let P : Central → Type 0 = λ t. All (IsApartFrom c.args.span) t.spans in
    let Q : SpanState → Type 0 = IsApartFrom c.args.span in
    let all : All (IsApartFrom c.args.span) (spans_of slots entries) = λ k d less. (
    let within : k < length entries = omega (arith, length-map entries (λ (e : ℕ × ℕ). span_at slots e.1)) in
    let slot = (get_or entries k nobody).1 in
    let filed : IsFiled slots (get_or entries k nobody) = kept.filed k nobody within in
    let long = length c.central.inside.ranking in
    let inside : slot < long = elim (cases_lt slot long) [ inl below ↦ below | inr past ↦ absurd (none-some (span_at slots slot) (sym (kept.room slot past) ∙ filed.has)) ] in
    subst Q (sym (span_of_place slots entries k d nobody within)) (c.loop-slot.invariant slot (span_at slots slot) (omega (arith, c.len-slot-end.ensures.len, c.loop-slot-test.false)) filed.has)) in
    subst P c.central.view_is all
