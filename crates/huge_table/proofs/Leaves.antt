-- A run leaves, and its hugepages become free where they serve nothing more.
use Rattle.std.proofs.Common.{◌≡◌, ℕ, ◌+◌, ◌*◌, ◌/◌, ◌<◌, ◌≤◌, ◌==◌, Bool, true, false, not, cond, eqb, List, length, map, Contains, refl, sym, ap}
use Rattle.std.proofs.Common.{subst, ◌∙◌, inl, inr, arith}
use Rattle.huge_table.proofs.Common.{cases_lt, cases_eq, ne_eqb, false≢true, length-map-range_with_len, get_or-map-range_with_len, Run, RowKind, count_none}
use Rattle.huge_table.proofs.Common.{used_count, Heap, Hugepage, hugepage, each, spans, reaches, holds, is_used, is_filler, is_region, is_kind, used_row}
use Rattle.huge_table.proofs.Common.{allocation_count, run_at, without_run, pages_of, left_by, left, given_back, IsPageOf, IsSound, length-each, each_is}
use Rattle.huge_table.proofs.Common.{reaches_parts, serves_at, is_Region, none_reach, some_reach, own_run, given_is_left, all_used, Table, IsSpan, IsNoted}
use Rattle.huge_table.proofs.Common.{HasBits, bit, is_between, noted_row, emptied_where, over_span, free_page, Means, is_shared, is_run, shares, nat_tests}
use Rattle.tc_units.specs.declared.rows.RowKind.TheVariants as kind
use Rattle.heap_rules.proofs.Places.{at}
use Rattle.heap_rules.proofs.Fillers.{is_Filler}
use Rattle.heap_rules.proofs.Released.{none_used}
use Rattle.huge_table.proofs.Pages.{slice_is, over_pages}
use Rattle.huge_table.proofs.Shared.{filler_shared, region_shared}
use Rattle.huge_table.proofs.Steps.{without_changed, stepped, shared_means, shared_step, at-heap, is_over, over_reached}
use Rattle.huge_table.proofs.Wholes.{IsLaid, two_spans, tail_held}

positive : (a : ℕ) → (a ≡ 0 → ⊥) → 0 < a
positive a h = omega arith

none_counted : (f : ℕ → Bool) (h : ℕ) → ((page : ℕ) → IsPageOf h page → f page ≡ false) → used_count (map f (pages_of h)) ≡ 0
none_counted f h none = count_none (λ b. b) (map f (pages_of h)) (λ k d l. (let size = length-map-range_with_len f (256 * h) 256 in
    get_or-map-range_with_len f (256 * h) 256 k (256 * h + k) d (omega arith) refl ∙ none (256 * h + k) (record { from = omega arith; to = omega arith })))

module _ (heap : Heap) (run : Run) (sound : IsSound heap) (live : Contains heap.runs run) where
  abbrev rest : List Run
  rest = without_run run heap.runs

  -- no page of a hugepage is used exactly where no run reaches it
  unused_exactly : (h : ℕ) → eqb (used_count (used_row rest h)) 0 ≡ (allocation_count rest h == 0)
  unused_exactly h = elim (cases_eq (allocation_count rest h) 0) [
    | inl none ↦ grind (arith, nat_tests, none_reach heap run sound live h none, none_counted (is_used rest) h)
    | inr more ↦
        ne_eqb (used_count (used_row rest h)) 0 (λ e. (let has = some_reach heap run sound live h (positive _ more) in false≢true (sym (none_used rest h e has.page has.own) ∙ has.used)))
        ∙ sym (ne_eqb (allocation_count rest h) 0 more)
  ]

-- what a run's leaving makes of a hugepage, by what it serves
left_run : (k : RowKind) (runs : List Run) (h : ℕ) (x : Hugepage) → k ≡ kind.Run → left_by k runs h x ≡ free_page true
left_run k runs h x e = ap (λ j. left_by j runs h x) e

left_filler : (k : RowKind) (runs : List Run) (h : ℕ) (x : Hugepage) → k ≡ kind.Filler → left_by k runs h x ≡ emptied_where (allocation_count runs h == 0) x
left_filler k runs h x e = ap (λ j. left_by j runs h x) e

left_region : (k : RowKind) (runs : List Run) (h : ℕ) (x : Hugepage) → k ≡ kind.Region → left_by k runs h x ≡ x
left_region k runs h x e = ap (λ j. left_by j runs h x) e

pub is_Run : (k : RowKind) → not (shares k) ≡ true → k ≡ kind.Run
is_Run k e = grind (arith, nat_tests)

unnot : (b : Bool) → not b ≡ true → b ≡ false
unnot b e = grind (arith, nat_tests)

filler_apart : (k : RowKind) → k ≡ kind.Filler → is_kind kind.Region k ≡ false
filler_apart k e = ap (is_kind kind.Region) e

run_apart : (k : RowKind) → k ≡ kind.Run → is_kind kind.Region k ≡ false
run_apart k e = ap (is_kind kind.Region) e

-- The run from a page on.
module _ (heap : Heap) (first n : ℕ) (sound : IsSound heap) (live : Contains heap.runs (run_at first n)) where
  abbrev run' : Run
  run' = run_at first n

  abbrev rest' : List Run
  rest' = without_run run' heap.runs

  -- whether a hugepage is noted as unused then
  noted_unused : (t s : Table) (h skipped : ℕ) → Means t heap → IsNoted t s first n skipped false → HasBits s → h ≤ length s.pages →
      is_filler (hugepage heap h) ≡ true → ((page : ℕ) → IsPageOf h page → is_between (first + skipped) (first + n) page ≡ holds page run') →
      eqb (used_count (noted_row s h)) 0 ≡ (allocation_count rest' h == 0)
  noted_unused t s h skipped means noted bits inside filler all =
      let changed = without_changed heap run' sound live in
      ap (λ row. eqb (used_count row) 0)
      (slice_is s.used (256 * h) 256 (omega arith)
      ∙ over_pages (bit s.used) (is_used rest') h (λ page own. (let at_h : page / 256 ≡ h = omega (arith, own.from, own.to) in
      grind (arith, nat_tests, filler_shared))))
      ∙ unused_exactly heap run' sound live h

  pub region_means : (t u : Table) (many : ℕ) → Means t heap → IsSpan t (first / 256) many is_region → 256 * (first / 256 + many) < first + n + 256 →
      first + n ≤ 256 * (first / 256 + many) → 0 < n → u.pages ≡ t.pages → IsNoted t u first n 0 false → Means u (left heap run')
  region_means t u many means span far to some same noted =
      let f : ℕ → Hugepage → Hugepage = λ k x. left_by x.kind rest' k x in
      let is = is_over t heap first n (first / 256) many is_region means span (omega arith) (omega arith) far to some in
      let stays : (k : ℕ) → reaches k run' ≡ true → hugepage heap k ≡ f k (hugepage heap k) =
      λ k e. sym (left_region (hugepage heap k).kind rest' k (hugepage heap k) (is_Region (hugepage heap k).kind (is.0.passes k e))) in
      shared_means heap first n false rest' f t u means (without_changed heap run' sound live)
      (grind (arith, nat_tests, each_is, over_reached))
      noted
      (λ k e. (is.1 k e, (region_shared (hugepage heap k) (is.0.passes k e), ap is_shared (sym (stays k e)) ∙ region_shared (hugepage heap k) (is.0.passes k e))))

  -- A run in hugepages that it has whole, and a part of one more.
  pub whole_pages : (t s g u : Table) (whole tails : ℕ) → Means t heap → IsLaid first n (first / 256) whole tails → IsSpan t (first / 256) whole is_run →
      IsSpan t (first / 256 + whole) tails is_filler → s.pages ≡ t.pages → IsNoted t g first n (256 * whole) false → HasBits g →
      g ≡ over_span (first / 256) whole (λ _. free_page true) s →
      u ≡ over_span (first / 256 + whole) tails (emptied_where (eqb (used_count (noted_row g (first / 256 + whole))) 0)) g →
      u.pages ≡ each (λ k x. cond (reaches k run') (left_by x.kind rest' k x) x) t.pages
  whole_pages t s g u whole tails means laid span tail same noted bits given made =
      let a : ℕ = first / 256 in
      let h : ℕ = a + whole in
      let b = eqb (used_count (noted_row g h)) 0 in
      let size : length g.pages ≡ length t.pages = ap (λ (x : Table). length x.pages) given ∙ length-each (λ k x. cond (spans whole k a) (free_page true) x) s.pages ∙ ap length same in
      two_spans t g u a whole tails first n (λ _. free_page true) (emptied_where b) (λ k x. left_by x.kind rest' k x)
      (ap (λ (x : Table). x.pages) given ∙ ap (λ xs. each (λ k x. cond (spans whole k a) (free_page true) x) xs) same)
      (ap (λ (x : Table). x.pages) made) laid
      (λ k x y. (let z = at t.pages k in sym (left_run z.kind rest' k z (is_Run z.kind (span.all k x y)))))
      (λ k x y. (let z = at t.pages k in
      let here : h ≡ k = omega (arith, laid.few) in
      let filler = tail.all k x y in
      let serves = ap (λ i. is_filler (hugepage heap i)) here ∙ ap is_filler (sym (at-heap t heap means k)) ∙ filler in
      let unused = noted_unused t g h (256 * whole) means noted bits (omega (arith, tail.to)) serves (λ page own. tail_held first n a whole tails page laid (omega (arith, own.from))) in
      ap (λ v. emptied_where v z) (unused ∙ ap (λ i. allocation_count rest' i == 0) here) ∙ sym (left_filler z.kind rest' k z (is_Filler z.kind filler))))

  pub whole_means : (t u : Table) (whole tails : ℕ) → Means t heap → IsLaid first n (first / 256) whole tails → IsSpan t (first / 256) whole is_run →
      IsSpan t (first / 256 + whole) tails is_filler → IsNoted t u first n (256 * whole) false →
      u.pages ≡ each (λ k x. cond (reaches k run') (left_by x.kind rest' k x) x) t.pages → Means u (given_back heap run')
  whole_means t u whole tails means laid span tail notes pages =
      let a : ℕ = first / 256 in
      let f : ℕ → Hugepage → Hugepage = λ k x. left_by x.kind rest' k x in
      let changed = without_changed heap run' sound live in
      let near : (k : ℕ) → reaches k run' ≡ true → (a ≤ k) × (k < a + whole + tails) = λ k e. (let parts = reaches_parts k run' e in (omega arith, omega (arith, laid.to))) in
      let early_is : (k : ℕ) → a ≤ k → k < a + whole → (hugepage heap k).kind ≡ kind.Run = λ k x y. is_Run (hugepage heap k).kind (ap is_run (sym (at-heap t heap means k)) ∙ span.all k x y) in
      let late_is : (k : ℕ) → a + whole ≤ k → k < a + whole + tails → is_filler (hugepage heap k) ≡ true = λ k x y. ap is_filler (sym (at-heap t heap means k)) ∙ tail.all k x y in
      let inside : (k : ℕ) → reaches k run' ≡ true → (0 < k) × (k ≤ length t.pages) = λ k e. (let is = near k e in (omega (arith, is.0, span.from), omega (arith, is.1, tail.to))) in
      let apart : (k : ℕ) → reaches k run' ≡ true → is_region (hugepage heap k) ≡ false = λ k e. (grind (arith, nat_tests, run_apart, filler_apart, is_Filler)) in
      subst (Means u) (sym (given_is_left heap run' sound live (all_used heap run' sound live apart)))
      (stepped heap first n (256 * whole) false rest' f t u means changed pages notes inside
      (λ k page e own. (let x = hugepage heap k in let is = near k e in let w = is_between (first + 256 * whole) (first + n) page in elim (cases_lt k (a + whole)) [
        | inl early ↦ grind (arith, nat_tests, serves_at, own_run, left_run, sound.runs.arena, sound.runs.fit)
        | inr late ↦
            (let filler = late_is k late is.1 in
            let shared = filler_shared x filler in
            grind (arith, nat_tests, is_shared, is_used, tail_held, shared_step))
      ])))
    where
      nothing : (w : Bool) → cond w false false ≡ false
      nothing true = refl
      nothing false = refl
