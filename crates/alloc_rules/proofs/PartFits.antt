-- The acts at the heap, the map and the names fit.
use Rattle.std.proofs.Common.{◌≡◌, ℕ, zero, suc, ◌/◌, ◌^◌, ◌<◌, ◌≤◌, eqb, List, [], ◌∷◌, length, get_or, All, Contains, Some, None, refl, sym, ap, ◌∙◌}
use Rattle.std.proofs.Common.{arith, find, slice_get}
use Rattle.alloc_rules.proofs.Common.{eq-eqb, le-leb, get_or_default, page_bytes, class_of, Addr, Label, Run, SpanRef, SpanKind, Small, Large, ClassRow, off_of}
use Rattle.alloc_rules.proofs.Common.{CallLine, NameState, state_of, HeapConfig, run_of, large, bit, same_run, same_span, runs_like, spans_like, unpublished}
use Rattle.alloc_rules.proofs.Common.{untaken, is_out, is_taken, Setup, Books, Found, IsOff, least, same_run_refl, same_span_refl, one_number}
use Rattle.alloc_rules.proofs.Common.{offs_live, mapped_are_there, clears_are_there, frees_find, NamesStep, no_class, class_row, Local, FitsNames}
use Rattle.alloc_rules.proofs.Common.{FitsHeap, FitsMap, IsClassRow, AreRows, Parts, account_of, IsBefore, setup, All-contains, IsSomeAnd}
use Rattle.alloc_rules.proofs.Common.{Planned, About, AreEntries, FrontRules, Step, Onward, HeapStep, MapStep, IsKindThere, IsFoundClass}
use Rattle.page_map.specs.Spans as maps
use Rattle.name_table.specs.declared.table.NameState.TheVariants as name
use Rattle.call_steps.specs.declared.step.HeapStep.TheVariants as heap
use Rattle.call_steps.specs.declared.step.MapStep.TheVariants as map
use Rattle.call_steps.specs.declared.step.NamesStep.TheVariants as names
use Rattle.call_steps.specs.declared.step.Step.TheVariants as does
use Rattle.alloc_rules.proofs.{Freeing.account_at, Published.within}
use Rattle.alloc_rules.proofs.Likes.{counted_there, span_counted, span_there}
use Rattle.alloc_rules.proofs.Lists.{find_only, holds_parts, only_holder}

-- a request without a class has a byte
pub some_size : (rows : List ClassRow) (size : ℕ) → 0 < length rows → class_of rows size ≡ None → 0 < size
some_size [] size some none = absurd (omega arith)
some_size (r ∷ rs) zero some none = grind (arith, le-leb)
some_size (r ∷ rs) (suc size) some none = omega arith

-- the row of a class that is there
pub row_at_class : {V R : Type 0} (rows : List ClassRow) (l : Local V R) → AreRows rows → l.regs.class.0 < length rows → IsClassRow (class_row rows l)
row_at_class rows l are low = are.each l.regs.class.0 no_class low

not_out : (n : NameState) → bit (is_out n) ≡ 0 → n ≡ name.Unpublished
not_out n e = grind arith

module _ {P V R : Type 0} (r : FrontRules P V R) (about : R → About) (planned : Planned → Type 0) (entries : AreEntries r.calls about) where
  module _ (huge labels : ℕ) (limits : HeapConfig) (p : Parts P) (locals : List (Local V R)) (b : Books) (calls : List CallLine) (t : ℕ) (l : Local V R) where
    abbrev m : Setup
    m = setup r huge labels

    abbrev at : Step R → Local V R
    at s = record l { step = s }

    abbrev Before : Step R → Type 0
    Before s = IsBefore r about planned huge labels limits p locals b calls t (at s)

    mine : (s : Step R) → Before s → slice_get b.accounts t ≡ Some (account_of about (at s))
    mine s before = account_at t before.books before.local

    -- a run that is held off the map
    off : (s : Step R) (before : Before s) (x : Run) → 0 < runs_like x (account_of about (at s)).off → IsOff m b x
    off s before x some = offs_live m b calls t (account_of about (at s)) x before.facts (mine s before) some

    lives : (s : Step R) (before : Before s) (x : Run) → 0 < runs_like x (account_of about (at s)).off → Contains p.heap.runs x
    lives s before x some = counted_there x p.heap.runs (omega (arith, (off s before x some).live, before.books.heap x))

    alone : (r : Run) (rest : List Run) → 0 < runs_like r (r ∷ rest)
    alone r rest = let e : bit (same_run r r) ≡ 1 = ap bit (same_run_refl r) in omega (arith, e)

    -- the first of the spans to give back
    first_lives : (next : Onward R) (before : Before (does.Heap (heap.FreeSpan next))) (xs : List SpanRef) → l.freed.items ≡ xs → 0 < length xs → IsSomeAnd (slice_get xs 0) (λ (x : SpanRef). Contains p.heap.runs (run_of x))
    first_lives next before [] is some = absurd (omega arith)
    first_lives next before (s ∷ others) is some = lives (does.Heap (heap.FreeSpan next)) before (run_of s) (omega (arith, alone (run_of s) [], ap (λ xs. runs_like (run_of s) (off_of xs (does.Heap (heap.FreeSpan next)))) is))

    pub heap_fits : (row : HeapStep R) → Before (does.Heap row) → ((label : Label) (size : ℕ) → row ≡ heap.New label size → size ≤ 2 ^ 40)
        → FitsHeap m.rows p.heap (at (does.Heap row)) (does.Heap row)
    heap_fits (heap.New label size) before bound = (let some = some_size m.rows size before.rows.some before.shaped.step.1 in omega (arith, some), bound label size refl)
    heap_fits (heap.NewSpan a) before bound = (before.shaped.class, (row_at_class m.rows l before.rows before.shaped.class).pages)
    heap_fits (heap.GiveBack label run) before bound = lives (does.Heap (heap.GiveBack label run)) before run (alone run [])
    heap_fits (heap.FreeSpan next) before bound = first_lives next before l.freed.items refl before.shaped.step.0.some
    heap_fits (heap.Unback pages) before bound = tt

    -- a span that is to be set
    abbrev span : Run → SpanKind → SpanRef
    span x kind = record { first = x.first; pages = x.pages; kind = kind }

    set_inside : (s : Step R) (before : Before s) (x : Run) (kind : SpanKind) → 0 < runs_like x (account_of about (at s)).off → maps.IsInside p.map.huge (span x kind)
    set_inside s before x kind some = grind (arith, off)

    set_apart : (s : Step R) (before : Before s) (x : Run) (kind : SpanKind) → 0 < runs_like x (account_of about (at s)).off → All (maps.AreApart (span x kind)) p.map.spans
    set_apart s before x kind some =
        λ k d low.
        let y : SpanRef = get_or p.map.spans k d in
        let there : Contains p.map.spans y = (k, low, get_or_default p.map.spans k y d low) in
        (off s before x some).apart y (omega (arith, span_counted y p.map.spans there, before.books.spans y))

    -- the span of an address
    found_there : (label : Label) (addr : Addr) (before : Before (does.Map (map.Lookup label addr)))
        → (f : Found m b addr) × (find (maps.holds (addr.0 / page_bytes)) p.map.spans ≡ Some f.span) × Contains p.map.spans f.span
    found_there label addr before =
        let s : Step R = does.Map (map.Lookup label addr) in
        let f : Found m b addr = frees_find m b calls t (account_of about (at s)) label addr before.facts (mine s before) refl refl in
        let there : Contains p.map.spans f.span = span_there f.span p.map.spans (omega (arith, f.there, before.books.spans f.span)) in
        let only = λ (y : SpanRef). only_holder (addr.0 / page_bytes) p.map.spans f.span y before.parts.map.apart there in
        (f, find_only (maps.holds (addr.0 / page_bytes)) p.map.spans f.span there f.holds (λ y yt held. only y yt f.holds held), there)

    kind_there : {label : Label} {addr : Addr} (f : Found m b addr) (before : Before (does.Map (map.Lookup label addr))) (kind : SpanKind) → f.span.kind ≡ kind → IsKindThere m.rows kind
    kind_there f before kind is = grind (arith, one_number)

    pub found_class : (row : MapStep R) → Before (does.Map row) → IsFoundClass m.rows p.map row
    found_class (map.Lookup label addr) before = λ span is.
        let f = found_there label addr before in
        let same : f.0.span ≡ span = let e : Some f.0.span ≡ Some span = sym f.1 ∙ is in cc in
        kind_there f.0 before span.kind (ap (λ (s : SpanRef). s.kind) same)
    found_class row before = tt

    first_is_there : (next : Onward R) (before : Before (does.Map (map.ClearSpan next))) (xs : List SpanRef) → l.freed.items ≡ xs → 0 < length xs → IsSomeAnd (slice_get xs 0) (Contains p.map.spans)
    first_is_there next before [] is some = absurd (omega arith)
    first_is_there next before (s ∷ others) is some =
        let step : Step R = does.Map (map.ClearSpan next) in
        let e : bit (same_span s s) ≡ 1 = ap bit (same_span_refl s) in
        let h = mapped_are_there m b calls t (account_of about (at step)) s before.facts (mine step before) (omega (arith, e, ap (spans_like s) is)) in
        span_there s p.map.spans (omega (arith, h.there, before.books.spans s))

    pub map_fits : (row : MapStep R) → Before (does.Map row) → FitsMap p.map (at (does.Map row)) (does.Map row)
    map_fits (map.Set label run) before = (set_inside _ before run Large (alone run []), set_apart _ before run Large (alone run []))
    map_fits (map.SetSpan a run) before = (set_inside _ before run (Small l.regs.class) (alone run []), set_apart _ before run (Small l.regs.class) (alone run []))
    map_fits (map.Lookup label addr) before =
        let f = found_there label addr before in
        let inside : maps.IsInside p.map.huge f.0.span = All-contains (maps.IsInside p.map.huge) p.map.spans f.0.span before.parts.map.inside f.2 in
        let held = holds_parts (addr.0 / page_bytes) f.0.span f.0.holds in
        (f.0.span, f.1, omega (arith, inside.to, held.1, before.parts.huge, before.same, before.few), omega (arith, before.shaped.hand, ap length before.shaped.step.hand))
    map_fits (map.Clear label run) before =
        let s : Step R = does.Map (map.Clear label run) in
        let e : bit (same_span (large run) (large run)) ≡ 1 = ap bit (same_span_refl (large run)) in
        span_there (large run) p.map.spans (omega (arith, clears_are_there m b calls t (account_of about (at s)) run before.facts (mine s before) (omega (arith, e)), before.books.spans (large run)))
    map_fits (map.ClearSpan next) before = first_is_there next before l.freed.items refl before.shaped.step.0.some

    pub names_fits : (row : NamesStep) → Before (does.Names row) → FitsNames {R = R} p.names (does.Names row)
    names_fits (names.Publish label value) before =
        let s : Step R = does.Names (names.Publish label value) in
        let own : bit (eqb label.0 label.0) ≡ 1 = ap bit (eq-eqb label.0 label.0 refl) in
        let low = within m b calls t (account_of about (at s)) label.0 before.facts (mine s before) (omega (arith, own)) in
        let some = least (unpublished label.0) b.accounts t (account_of about (at s)) (mine s before) in
        let out : bit (is_out (state_of b.names label.0)) ≡ 0 = omega (arith, before.facts.published label.0, some, own) in
        (omega (arith, low, ap length before.books.names), ap (λ (ns : List NameState). state_of ns label.0) (sym before.books.names) ∙ not_out (state_of b.names label.0) out)
    names_fits (names.Take label) before =
        let s : Step R = does.Names (names.Take label) in
        let own : bit (eqb label.0 label.0) ≡ 1 = ap bit (eq-eqb label.0 label.0 refl) in
        let low = within m b calls t (account_of about (at s)) label.0 before.facts (mine s before) (omega (arith, own)) in (
          omega (arith, low, ap length before.books.names),
          λ taken. absurd (
              let e : bit (is_taken (state_of b.names label.0)) ≡ 1 = ap (λ (n : NameState). bit (is_taken n)) (ap (λ (ns : List NameState). state_of ns label.0) before.books.names ∙ taken) in
              omega (arith, before.facts.taken label.0, least (untaken label.0) b.accounts t (account_of about (at s)) (mine s before), own, e)),
        )
