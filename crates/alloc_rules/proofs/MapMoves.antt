-- What the acts at the page map do to the books.
use Rattle.std.proofs.Common.{◌≡◌, ℕ, ◌/◌, ◌<◌, true, Option, List, [], ◌∷◌, ◌++◌, drop, Contains, refl, sym, ap, ◌∙◌, subst, inl, inr, arith, map, take, slice_get}
use Rattle.alloc_rules.proofs.Common.{append-nil, page_bytes, Addr, Label, Run, SpanRef, SpanKind, Small, Large, CallLine, SpanMap, holds, without_span, goes, FreeSpan}
use Rattle.alloc_rules.proofs.Common.{HeapConfig, find_there, address_of, run_of, large, small, spans_like, without, Account, Holds, Frees, WeighSame, Setup}
use Rattle.alloc_rules.proofs.Common.{Books, class_number, Found, SetsRun, SetsSpan, FindsObject, FindsRun, ClearsRun, ClearsSpan, like_span, without_counts}
use Rattle.alloc_rules.proofs.Common.{is_large, frees_find, Asking, Set, SetSpan, Lookup, Clear, ClearSpan, map_after, found, FitsMap}
use Rattle.alloc_rules.proofs.Common.{Planned, Local, About, about_onward, account_of, doing_about, AreEntries, FrontRules, Parts, Does, setup}
use Rattle.alloc_rules.proofs.Common.{IsBefore, Contents, Class, Regs, appended, Freeing, Onward, MapStep, MapActsMove, with_span, IsSomeAnd, option_map_or}
use Rattle.call_steps.specs.declared.step.Step.TheVariants as does
use Rattle.call_steps.specs.declared.step.Giving.TheVariants as giving
use Rattle.call_steps.specs.declared.step.ShardStep.TheVariants as shard
use Rattle.call_steps.specs.Calls as calls_are
use Rattle.alloc_rules.proofs.{Freeing.account_at, Lists.one_first, Lists.only_holder, Moved.leaves}
use Rattle.alloc_rules.proofs.Likes.{like-with_span, like-without_span, span_counted, span_there}
use Rattle.alloc_rules.proofs.Weighing.{bare, entry_is, weighs_is, weighs_same}

module _ {P V R : Type 0} (r : FrontRules P V R) (about : R → About) (planned : Planned → Type 0) (entries : AreEntries r.calls about) where
  module _ (huge labels : ℕ) (limits : HeapConfig) (p : Parts P) (locals : List (Local V R)) (b : Books) (calls : List CallLine) (t : ℕ) (l : Local V R) where
    abbrev m : Setup
    m = setup r huge labels

    abbrev at : MapStep R → Local V R
    at row = record l { step = does.Map row }

    abbrev Is : Local V R → Type 0
    Is = IsBefore r about planned huge labels limits p locals b calls t

    abbrev Before : MapStep R → Type 0
    Before row = Is (at row)

    abbrev Leaves : Local V R → SpanMap × Local V R → Type 0
    Leaves x y = Does r about m (record p { map = y.0 }) b x y.1

    abbrev Goal : MapStep R → SpanMap × Local V R → Type 0
    Goal row = Leaves (at row)

    abbrev left_by : MapStep R → SpanMap × Local V R
    left_by row = map_after r.calls p.map (at row) (does.Map row)

    -- nothing is decided
    silent : l.answers ≡ l.answers ++ []
    silent = sym (append-nil l.answers)

    sets : (label : Label) (run : Run) → Before (Set label run) → Goal (Set label run) (left_by (Set label run))
    sets label run before =
        leaves before.books p.heap (record p.map { spans = with_span (large run) p.map.spans }) (λ ns. ns) (SetsRun run _ refl refl (weighs_same _)) before.books.heap
        (λ s. omega (arith, like-with_span (large run) p.map.spans s, before.books.spans s)) refl silent

    sets_span : (a : Asking) (run : Run) → Before (SetSpan a run) → Goal (SetSpan a run) (left_by (SetSpan a run))
    sets_span a run before =
        let s : SpanRef = small l.regs.class run in
        leaves before.books p.heap (record p.map { spans = with_span s p.map.spans }) (λ ns. ns) (SetsSpan run [] _ refl refl refl (weighs_same _)) before.books.heap
        (λ x. omega (arith, like-with_span s p.map.spans x, before.books.spans x)) refl silent

    -- a span that leaves the map
    left_like : (s : SpanRef) (row : MapStep R) → Before row → Contains p.map.spans s → (x : SpanRef) → spans_like x (without s b.spans) ≡ spans_like x (without_span s p.map.spans)
    left_like s row before there x =
        let some : 0 < spans_like s b.spans = omega (arith, span_counted s p.map.spans there, before.books.spans s) in
        let one = one_first p.map.huge p.map.spans s.first.0 before.parts.map in
        omega (arith, like-without_span s p.map.spans x there one, without_counts s b.spans some (like_span x), before.books.spans x)

    clears_run : (label : Label) (run : Run) → Before (Clear label run) → Contains p.map.spans (large run) → Goal (Clear label run) (left_by (Clear label run))
    clears_run label run before there =
        leaves before.books p.heap (record p.map { spans = without_span (large run) p.map.spans }) (λ ns. ns) (ClearsRun label run _ refl refl refl (weighs_same _))
        before.books.heap (left_like (large run) (Clear label run) before there) refl silent

    -- the first of the spans that left a shard is cleared
    abbrev with_spans : Onward R → List SpanRef → Account
    with_spans next xs = record (bare (doing_about (about_onward about next)) l.regs.class.0 l.regs.hand.items l.rest) { off = map run_of (take 1 xs); apart = xs; mapped = drop 1 xs }

    clears_first : (next : Onward R) → Before (ClearSpan next) → (xs : List SpanRef) → l.freed.items ≡ xs → IsSomeAnd (slice_get xs 0) (Contains p.map.spans)
        → Goal (ClearSpan next) (option_map_or {U = SpanMap × Local V R} (λ (s : SpanRef). (record p.map { spans = without_span s p.map.spans }, goes (at (ClearSpan next)) (does.Heap (FreeSpan next)))) (slice_get xs 0) (p.map, (at (ClearSpan next))))
    clears_first next before [] is there = absurd there
    clears_first next before (s ∷ others) is there =
        let own : List SpanRef → Account = λ xs. record (account_of about (at (ClearSpan next))) { off = run_of s ∷ []; apart = xs; mapped = others } in
        leaves before.books p.heap (record p.map { spans = without_span s p.map.spans }) (λ ns. ns)
        (ClearsSpan s others _ is refl (subst (λ (xs : List SpanRef). WeighSame (own l.freed.items) (with_spans next xs)) (sym is)
        (subst (λ (xs : List SpanRef). WeighSame (own xs) (with_spans next (s ∷ others))) (sym is) (weighs_same _))))
        before.books.heap (left_like s (ClearSpan next) before there) refl silent

    -- Lookup: an object's span, and a large block's, which begins at the address
    abbrev Held : Addr → SpanRef → Type 0
    Held addr span = holds (addr.0 / page_bytes) span ≡ true

    starts : (label : Label) (addr : Addr) (span : SpanRef) → Before (Lookup label addr) → Contains p.map.spans span → Held addr span
        → span.kind ≡ Large → addr ≡ address_of (run_of span)
    starts label addr span before there held kind =
        let f : Found m b addr = frees_find m b calls t (account_of about (at (Lookup label addr))) label addr before.facts (account_at t before.books before.local) refl refl in
        let at_map : Contains p.map.spans f.span = span_there f.span p.map.spans (omega (arith, f.there, before.books.spans f.span)) in
        let same : f.span ≡ span = only_holder (addr.0 / page_bytes) p.map.spans span f.span before.parts.map.apart there at_map held f.holds in
        elim f.is [
          | inl object ↦ (let wrong : Small (class_number object.0) ≡ Large = sym object.1 ∙ (ap (λ (s : SpanRef). s.kind) same ∙ kind) in absurd (cc))
          | inr run ↦ run.2 ∙ ap (λ (s : SpanRef). address_of (run_of s)) (sym run.1 ∙ same)
        ]

    finds : (label : Label) (addr : Addr) (span : SpanRef) → Before (Lookup label addr) → Contains p.map.spans span → Held addr span
        → (kind : SpanKind) → span.kind ≡ kind → Goal (Lookup label addr) (p.map, found r.calls (at (Lookup label addr)) label addr span kind)
    finds label addr span before there held (Small k) is =
        let none : l.regs.hand.items ≡ [] = before.shaped.step.hand in
        let f : Freeing = record { label = label; addr = addr } in
        let found : Regs = record l.regs { class = k; hand = appended l.regs.hand (addr ∷ []) } in
        let g : Regs = r.calls.to_free found in
        let kept = entries.to_free found in
        let now : ℕ → List Addr → Account = λ j h. bare (Frees label addr) j h l.rest in
        let account = entry_is about (record (at (Lookup label addr)) { regs = g }) (does.Shard (shard.Give (giving.Freed f))) (calls_are.Frees f) (r.calls.free l.seat f) (entries.free_about l.seat f) refl
        ∙ (ap (λ (c : Class). now c.0 g.hand.items) kept.class ∙ (ap (λ (h : Contents Addr). now k.0 h.items) kept.hand ∙ ap (λ (h : List Addr). now k.0 (h ++ addr ∷ [])) none)) in
        leaves before.books p.heap p.map (λ ns. ns)
        (FindsObject label addr span k.0 _ refl none refl refl (omega (arith, span_counted span p.map.spans there, before.books.spans span)) held is
        (weighs_is (now k.0 (addr ∷ [])) _ account)) before.books.heap before.books.spans refl silent
    finds label addr span before there held Large is =
        let x : Run = run_of span in
        let begins : addr ≡ address_of x = starts label addr span before there held is in
        let counted : 0 < spans_like (large x) b.spans = omega (arith, ap (λ (s : SpanRef). spans_like s b.spans) (is_large span is), span_counted span p.map.spans there, before.books.spans span) in
        let after : Addr → Account = λ o. record (bare (Holds label o) l.regs.class.0 l.regs.hand.items l.rest) { clears = large x ∷ [] } in
        leaves before.books p.heap p.map (λ ns. ns)
        (FindsRun label x _ (ap (Holds label) begins) counted refl (weighs_is (after addr) (after (address_of x)) (ap after (sym begins))))
        before.books.heap before.books.spans refl silent

    by_row : (row : MapStep R) → Before row → FitsMap p.map (at row) (does.Map row) → Goal row (left_by row)
    by_row (ClearSpan next) before fits = clears_first next before l.freed.items refl fits
    by_row (Lookup label addr) before fits =
        let there = find_there (holds (addr.0 / page_bytes)) p.map.spans fits.0 (sym fits.1) in
        let x : Local V R = at (Lookup label addr) in
        subst (λ (o : Option SpanRef). Goal (Lookup label addr) (p.map, option_map_or (λ (s : SpanRef). found r.calls x label addr s s.kind) o x)) (sym fits.1)
        (finds label addr fits.0 before there.0 there.1 fits.0.kind refl)
    by_row row before fits = grind (arith, clears_run, sets, sets_span)

    by_step : (row : MapStep R) → Is l → l.step ≡ does.Map row → FitsMap p.map l (does.Map row) → Leaves l (map_after r.calls p.map l (does.Map row))
    by_step row before step fits =
        let is : at row ≡ l = ap (λ s. record l { step = s }) (sym step) in
        subst (λ (x : Local V R). Is x → FitsMap p.map x (does.Map row) → Leaves x (map_after r.calls p.map x (does.Map row))) is (by_row row) before fits

  pub map_acts_move : MapActsMove r about planned
  map_acts_move = by_step
