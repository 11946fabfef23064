use Rattle.std.proofs.Common.{◌≡◌, ◌<◌, List, ◌++◌, length, sym, ◌∙◌, ap, subst, arith}
use Rattle.std.specs.Prelude.{All}
use Rattle.span_list.specs.Span.{SpanState, first_byte}
use Rattle.std.specs.BTreeMap.{insert_entry}
use Rattle.std.specs.Ordering.{nat_cmp}
use Rattle.tc_units.specs.declared.spans.ClassRow.{ClassRow}
use Rattle.central_free.specs.Central.{Central, IsOfRow, IsApartFrom, opened, opening, with_span, IsSound, IsTakenIn}
use Rattle.central_free.specs.Runs.{span_after, given_by}
use Rattle.central_free.specs.Slots.{spans_of}
use Rattle.central_free.proofs.SoundFacts.{has_pages}
use Rattle.central_free.proofs.AddFacts.{opened-all, length-opening, some_objects, IsOfRow-opened, IsSound-with_span, count-with_span}
use Rattle.central_free.proofs.AddFacts.{opening-taken, opening-is_taken, opening-different, kept-with_span}
use Rattle.central_free.proofs.PutFacts.{fresh-apart}
use Rattle.central_free.proofs.SlotFacts.{IsFilled, with_entry, new_key, insert_entry-is, spans_of-insert, IsKept-insert}
use Rattle.central_free.proofs.central.CentralFree.add_take.Goals as goal

abbrev central_of : ClassRow → List SpanState → Central
central_of row spans = record { row = row; spans = spans }

-- the new span as it is left, the spans before, and that they were sound
abbrev wanted : goal.After-insert_reserved → SpanState
wanted c = opened c.args.span c.args.self.now.row.size c.args.n

abbrev old : goal.After-insert_reserved → List SpanState
old c = spans_of c.self.inside.slots.slots c.self.inside.order.entries

before : (c : goal.After-insert_reserved) → IsSound c.args.self.now
before c = subst IsSound c.self.view_is c.self.invariant.0

-- the new span, and what the slots are with it
opens : (c : goal.After-insert_reserved)
    → (c.take_some-came.result ≡ length (opening c.args.span c.args.self.now.row.size c.args.n)) × (span_after c.take_some-came.result c.in_ok-added.added ≡ wanted c)
    × (given_by c.take_some-came.result c.in_ok-added.added ≡ opening c.args.span c.args.self.now.row.size c.args.n)
opens c = grind (arith, opened-all c.args.span c.args.self.now.row.size c.args.n c.take_some-came.result c.in_ok-added.added)

new : (c : goal.After-insert_reserved) → c.take_some-came.new.span ≡ wanted c
new c = c.take_some-came.ensures.span ∙ (opens c).1

filled : (c : goal.After-insert_reserved) → IsFilled c.self.inside.slots.slots c.insert_reserved.new.self.slots c.vacant_key-slot.result c.take_some-came.new.span
filled c = grind (arith, c.insert_reserved.ensures.updates.others)

-- it has a page, and no span begins where it does
page : (c : goal.After-insert_reserved) → 0 < c.take_some-came.new.span.span.pages
page c = let b = before c in omega (arith, ap (λ s. s.span.pages) (new c), c.requires.pages, b.some, b.fits)

entries : (c : goal.After-insert_reserved) → c.insert.new.self.entries ≡ with_entry c.self.inside.order.entries (first_byte c.take_some-came.new.span.span) c.vacant_key-slot.result
entries c =
    let (sound, kept) = c.self.invariant in let s : SpanState = c.take_some-came.new.span in
    let key : c.addr_of.result.0 ≡ first_byte s.span = c.addr_of.ensures ∙ ap (λ t. first_byte t.span) (sym (new c)) in
    let apart : All (IsApartFrom c.args.span) (old c) = subst (λ (t : Central). All (IsApartFrom c.args.span) t.spans) (sym c.self.view_is) c.requires.apart in
    let apart_too : All (IsApartFrom s.span) (old c) = subst (λ (t : SpanState). All (IsApartFrom t.span) (old c)) (sym (new c)) apart in
    c.in_ok-insert.ensures.entries ∙ ap (λ q. insert_entry nat_cmp c.self.inside.order.entries q c.vacant_key-slot.result) key
    ∙ insert_entry-is c.self.inside.order.entries (first_byte s.span) c.vacant_key-slot.result (new_key kept s (page c) (has_pages sound) apart_too)

spans : (c : goal.After-insert_reserved) → spans_of c.insert_reserved.new.self.slots c.insert.new.self.entries ≡ with_span c.take_some-came.new.span (old c)
spans c = ap (spans_of c.insert_reserved.new.self.slots) (entries c) ∙ spans_of-insert c.self.invariant.1 (filled c)

added : (c : goal.After-insert_reserved)
    → central_of c.self.inside.row (spans_of c.insert_reserved.new.self.slots c.insert.new.self.entries) ≡ central_of c.args.self.now.row (with_span (wanted c) c.args.self.now.spans)
added c =
    ap (central_of c.self.inside.row) (spans c) ∙ ap (λ s. central_of c.self.inside.row (with_span s (old c))) (new c) ∙ ap (λ t. central_of t.row (with_span (wanted c) t.spans)) c.self.view_is

of_row : (c : goal.After-insert_reserved) → IsOfRow c.args.self.now.row (wanted c)
of_row c = grind (arith, IsOfRow-opened c.args.self.now.row c.args.span c.args.n (before c).some, before c)

sound : (c : goal.After-insert_reserved) → IsSound (central_of c.self.inside.row (spans_of c.insert_reserved.new.self.slots c.insert.new.self.entries))
sound c = subst IsSound (sym (added c)) (IsSound-with_span (before c) (wanted c) (of_row c) c.requires.apart)

pub invariant_of-self-2 : goal.invariant_of-self-2
invariant_of-self-2 c = grind (arith, IsKept-insert c.self.invariant.1 (filled c), filled c, sound c, entries c)

pub returns-clause-spans : goal.returns-clause-spans
returns-clause-spans c = added c

pub returns-clause-sound : goal.returns-clause-sound
returns-clause-sound c = sound c

pub returns-clause-count : goal.returns-clause-count
returns-clause-count c = (opens c).0

pub returns-clause-out : goal.returns-clause-out
returns-clause-out c = c.take_some-came.ensures.out ∙ ap (λ xs. c.args.out.now.items ++ xs) (opens c).2

pub returns-clause-any : goal.returns-clause-any
returns-clause-any c =
    let b = before c in let objects = some_objects c.args.span.pages c.args.self.now.row.size b.some (omega (arith, b.fits, c.requires.pages)) in
    omega (arith, (opens c).0, length-opening c.args.span c.args.self.now.row.size c.args.n, c.requires.some, objects)

pub returns-clause-moves : goal.returns-clause-moves
returns-clause-moves c = grind (arith, new, added, count-with_span)

pub returns-clause-given : goal.returns-clause-given
returns-clause-given c =
    let objects = opening c.args.span c.args.self.now.row.size c.args.n in
    subst (λ (t : Central). All (IsTakenIn t.spans) objects) (sym (added c)) (opening-taken c.args.self.now.spans c.args.span c.args.self.now.row.size c.args.n)

pub returns-clause-fresh : goal.returns-clause-fresh
returns-clause-fresh c = grind (arith, fresh-apart (before c) (wanted c), before c, of_row c, opening-is_taken c.args.span c.args.self.now.row.size c.args.n)

pub returns-clause-different : goal.returns-clause-different
returns-clause-different c = opening-different c.args.span c.args.self.now.row.size c.args.n (before c).some

pub returns-clause-kept : goal.returns-clause-kept
returns-clause-kept c = λ a there. subst (λ (t : Central). IsTakenIn t.spans a) (sym (added c)) (kept-with_span c.args.self.now.spans (wanted c) a there)
