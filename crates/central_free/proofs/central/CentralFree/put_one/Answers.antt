use Rattle.std.proofs.Common.{◌≡◌, ◌+◌, List, Some, None, [], ◌∷◌, set, count_by, sym, ◌∙◌, ap, subst}
use Rattle.std.proofs.lemmas.Option.{same_Some}
use Rattle.std.proofs.lemmas.List.{set-set}
use Rattle.std.proofs.lemmas.Bool.{both_ways}
use Rattle.std.specs.List.{remove}
use Rattle.std.specs.Map.{remove_entry}
use Rattle.std.specs.BTreeMap.{is_at}
use Rattle.std.specs.Ordering.{nat_cmp}
use Rattle.std.proofs.Common.{arith}
use Rattle.span_list.specs.Span.{SpanState, taken_count, first_byte}
use Rattle.tc_units.specs.declared.spans.ClassRow.{ClassRow}
use Rattle.central_free.specs.Central.{Central, put_one, IsTakenIn, free_in}
use Rattle.central_free.specs.Slots.{spans_of}
use Rattle.central_free.proofs.SlotFacts.{slot_at-set, spans_of-set, IsKept-set, entry_gone, spans_of-remove, IsKept-remove}
use Rattle.central_free.proofs.PutFacts.{IsFound, some_begun, slot_found, remove-set, IsPutOne, IsPutOne-stays, IsPutOne-leaves}
use Rattle.central_free.proofs.central.CentralFree.put_one.Goals as goal

abbrev central_of : ClassRow → List SpanState → Central
central_of row spans = record { row = row; spans = spans }

pub last_begun-slot-requires : goal.last_begun-slot-requires
last_begun-slot-requires c = let (sound, kept) = c.self.invariant in some_begun kept sound c.args.self.now.spans c.args.object (ap (λ t. t.spans) c.self.view_is) c.requires

pub put-requires : goal.put-requires
put-requires c =
    let (sound, kept) = c.self.invariant in
    (slot_found kept sound _ c.args.object c.last_begun-slot.result _ (ap (λ t. t.spans) c.self.view_is) c.requires c.last_begun-slot.ensures c.index_mut.ensures.value).taken

-- the span stays
stayed : (c : goal.After-set-else-put) → IsPutOne c.self.inside.row (spans_of c.self.inside.slots.slots c.self.inside.order.entries) c.args.object
    (spans_of (set c.self.inside.slots.slots c.last_begun-slot.result (Some c.put.new.self)) c.self.inside.order.entries) []
stayed c =
    let (sound, kept) = c.self.invariant in let s : SpanState = c.index_mut.result.now in let t : SpanState = c.put.new.self in
    let at = slot_found kept sound _ c.args.object c.last_begun-slot.result s (ap (λ t. t.spans) c.self.view_is) c.requires c.last_begun-slot.ensures c.index_mut.ensures.value in
    let some : taken_count t ≡ 0 → ⊥ = λ none. both_ways c.put.result c.if-put.false (c.put.ensures.all.1 none) in
    rw (spans_of-set at.stands t) (IsPutOne-stays at.place s t (sym (at.stands.span s)) c.put.ensures.after sound c.put.ensures.kept c.put.ensures.moves some)

pub invariant_of-self-else-put : goal.invariant_of-self-else-put
invariant_of-self-else-put c =
    let (sound, kept) = c.self.invariant in
    let k = c.last_begun-slot.result in let s : SpanState = c.index_mut.result.now in let t : SpanState = c.put.new.self in
    let read : c.index.result.now ≡ t = same_Some c.index.result.now t (sym c.index.ensures ∙ slot_at-set c.self.inside.slots.slots k s t c.index_mut.ensures.value) in
    ((stayed c).sound, rw (c.set-else-put.ensures, c.standing_of.ensures, read) (IsKept-set kept k s t c.index_mut.ensures.value (ap (λ u. u.span) c.put.ensures.after)))

pub returns-else-put-clause-spans : goal.returns-else-put-clause-spans
returns-else-put-clause-spans c =
    ap (λ xs. central_of c.self.inside.row xs) ((stayed c).spans_are) ∙ ap (λ t. central_of t.row (put_one c.args.object t.spans).spans) c.self.view_is

pub returns-else-put-clause-freed : goal.returns-else-put-clause-freed
returns-else-put-clause-freed c = (stayed c).freed_are ∙ ap (λ t. (put_one c.args.object t.spans).freed) c.self.view_is

pub returns-else-put-clause-sound : goal.returns-else-put-clause-sound
returns-else-put-clause-sound c = (stayed c).sound

pub returns-else-put-clause-kept : goal.returns-else-put-clause-kept
returns-else-put-clause-kept c = λ b there differ. (stayed c).kept b (subst (λ (t : Central). IsTakenIn t.spans b) (sym c.self.view_is) there) differ

pub returns-else-put-clause-moves : goal.returns-else-put-clause-moves
returns-else-put-clause-moves c = λ test. (stayed c).moves test ∙ ap (λ t. count_by test (free_in t.spans) + count_by test (c.args.object ∷ [])) c.self.view_is

-- the span leaves
gone : (c : goal.After-set) → IsFound c.self.inside.slots.slots c.self.inside.order.entries c.args.object c.last_begun-slot.result c.index_mut.result.now
gone c =
    let (sound, kept) = c.self.invariant in
    slot_found kept sound _ c.args.object c.last_begun-slot.result _ (ap (λ t. t.spans) c.self.view_is) c.requires c.last_begun-slot.ensures c.index_mut.ensures.value

-- its pages, and what is kept of it no more
pages : (c : goal.After-set) → c.span-left.result ≡ c.index_mut.result.now.span
pages c = grind (arith, same_Some, slot_at-set)

entries_left : (c : goal.After-set) → c.remove-then-put.new.self.entries ≡ remove c.self.inside.order.entries (gone c).at
entries_left c =
    let (sound, kept) = c.self.invariant in let key = c.addr_of.ensures ∙ ap first_byte (pages c) in
    c.remove-then-put.ensures.entries ∙ ap (λ q. remove_entry (is_at (nat_cmp q)) c.self.inside.order.entries) key ∙ entry_gone kept sound (gone c).stands

slots_left : (c : goal.After-set) → c.remove.new.self.slots ≡ set c.self.inside.slots.slots c.last_begun-slot.result None
slots_left c = c.remove.ensures.slots ∙ set-set c.self.inside.slots.slots c.last_begun-slot.result (Some c.put.new.self) None

left : (c : goal.After-set) → IsPutOne c.self.inside.row (spans_of c.self.inside.slots.slots c.self.inside.order.entries) c.args.object
    (spans_of c.remove.new.self.slots c.remove-then-put.new.self.entries) (c.span-left.result ∷ [])
left c =
    let (sound, kept) = c.self.invariant in let at = gone c in let s : SpanState = c.index_mut.result.now in let t : SpanState = c.put.new.self in
    let is = (λ i. spans_of (slots_left c i) (entries_left c i)) ∙ spans_of-remove at.stands ∙ sym (remove-set (spans_of c.self.inside.slots.slots c.self.inside.order.entries) at.at t) in
    IsPutOne-leaves at.place s t (sym (at.stands.span s)) c.put.ensures.after sound c.put.ensures.kept c.put.ensures.moves _ _ (c.put.ensures.all.0 c.if-put.true) is (pages c)

pub invariant_of-self : goal.invariant_of-self
invariant_of-self c = grind (arith, left c, slots_left c, entries_left c, IsKept-remove c.self.invariant.1 (gone c).stands, gone c)

pub returns-then-put-clause-spans : goal.returns-then-put-clause-spans
returns-then-put-clause-spans c =
    ap (λ xs. central_of c.self.inside.row xs) ((left c).spans_are) ∙ ap (λ t. central_of t.row (put_one c.args.object t.spans).spans) c.self.view_is

pub returns-then-put-clause-freed : goal.returns-then-put-clause-freed
returns-then-put-clause-freed c = (left c).freed_are ∙ ap (λ t. (put_one c.args.object t.spans).freed) c.self.view_is

pub returns-then-put-clause-sound : goal.returns-then-put-clause-sound
returns-then-put-clause-sound c = (left c).sound

pub returns-then-put-clause-kept : goal.returns-then-put-clause-kept
returns-then-put-clause-kept c = λ b there differ. (left c).kept b (subst (λ (t : Central). IsTakenIn t.spans b) (sym c.self.view_is) there) differ

pub returns-then-put-clause-moves : goal.returns-then-put-clause-moves
returns-then-put-clause-moves c = grind (arith, left c)
