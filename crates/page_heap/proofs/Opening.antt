-- A run in a new region: the region opens, and then the run comes into it.
use Rattle.std.proofs.Common.{◌≡◌, ℕ, ◌+◌, ◌-◌, ◌*◌, ◌/◌, ◌^◌, ◌<◌, ◌≤◌, true, false, not, cond, Bool, List, length, replicate, Contains, Some, None}
use Rattle.std.proofs.Common.{refl, sym, ap, subst, ◌∙◌, inl, inr, arith}
use Rattle.page_heap.proofs.Common.{cases_Bool, false≢true, false_from_ne_true, same_lists, length-replicate, get_or-replicate, length-map-range_with_len}
use Rattle.page_heap.proofs.Common.{get_or-map-range_with_len, Run, Contains-new, Contains-old, map-with_item, free_from, HeapConfig, Heap, Hugepage, hugepage}
use Rattle.page_heap.proofs.Common.{is_used, region_row, reaches, run_at, is_free, is_region, spans, RegionRow, region_row_of, run_choice, all_backed}
use Rattle.page_heap.proofs.Common.{region_page, with_new_region, in_new_region, IsHugepageOf, AreRunsSound, IsSound, IsGiven, AreFree, run_choice_free}
use Rattle.page_heap.proofs.Common.{reaches_parts, spans_parts, spans_from, at, page_of, here, Means, Table, IsSpan, reached_by, Cache, Regions, region_with}
use Rattle.page_heap.proofs.Common.{with_changed, joined, start_in, AreFreeIn, Inside, measured, measures, cache_of, regions_of, IsRouted, nat_tests}
use Rattle.std.proofs.lemmas.List.Folds.{prefix_len-replicate}
use Rattle.heap_rules.specs.Heap.{used_from}
use Rattle.heap_rules.proofs.Regions.{runs_sound, kinds_inner, given_new_region}
use Rattle.heap_rules.proofs.Routes.{free_not_region}
use Rattle.huge_cache.specs.Cache.{without_run}
use Rattle.huge_region.specs.Regions as regions
use Rattle.page_heap.proofs.Frames.{is_taken, is_unready, measured_none, measures_same, flags_run, same_cache}
use Rattle.page_heap.proofs.InRegion.{come_measures, come_cache, come_found, come_regions}
use Rattle.page_heap.proofs.Filled.{free_not_filler}
use Rattle.page_heap.proofs.Taken.{free_span, free_there}
use Rattle.page_heap.proofs.RegionRows.{region_missing}
use Rattle.page_heap.proofs.Routed.{routed_more, free_none}
use Rattle.page_heap.proofs.Results.{IsHeap, IsMade, fits_used, came_made}

-- a range of which no page is used
used_from-none : (runs : List Run) (first many : ℕ) → ((page : ℕ) → first ≤ page → page < first + many → is_used runs page ≡ false) → used_from runs first many ≡ replicate many false
used_from-none runs first many none =
    grind (arith, nat_tests, length-map-range_with_len, is_used, same_lists, length-replicate, get_or-map-range_with_len, get_or-replicate)

-- What the calls ask as a region opens for a run, and what that makes.
pub record IsOpening (old : Inside) (heap : Heap) (n r page : ℕ) : Type 0 where
  pub span : IsSpan old.table r old.config.region is_free
  pub low : 0 < r
  pub high : r + old.regions.width ≤ old.regions.huge + 1
  pub none : (h : ℕ) → r ≤ h → h < r + old.regions.width → region_with old.regions h ≡ None
  pub fits : old.used + n < 2 ^ 64
  pub same : heap.config.region ≡ old.config.region
  pub reached : (u : Table) → Means u (with_new_region heap r) → IsSpan u (page / 256) (reached_by page n) is_region
  pub row : RegionRow
  pub free : AreFreeIn (regions.with_region old.regions r) page n row
  pub room : old.config.region ≤ free_from old.cache.taken (r - 1)
  pub makes : (all : Regions) →
      ((row : RegionRow) → region_with (regions.with_region old.regions r) (page / 256) ≡ Some row →
      all ≡ with_changed (regions.with_region old.regions r) row.first (joined (start_in row page) n)) →
      IsMade (in_new_region heap n r).heap old.config old.filler (without_run old.cache r old.config.region) all (old.used + n)

module _ (old : Inside) (heap : Heap) (is : IsHeap old heap) (n r : ℕ) (some : 0 < n) (fits : n ≤ 256 * heap.config.region) (choice : run_choice heap heap.config.region ≡ Some r) where
  abbrev width : ℕ
  width = heap.config.region

  sound : IsSound heap
  sound = is.well.sound

  wide : 0 < width
  wide = omega (arith, is.well.limits.region_from)

  are : AreFree heap r width
  are = run_choice_free heap width r wide choice

  given : IsGiven heap n (in_new_region heap n r)
  given = given_new_region heap r sound are n some fits

  abbrev between : Heap
  between = with_new_region heap r

  abbrev after : Heap
  after = (in_new_region heap n r).heap

  abbrev run : Run
  run = run_at (256 * r) n

  abbrev f : ℕ → Hugepage → Hugepage
  f h x = cond (spans width h r) (region_page x) x

  between_sound : AreRunsSound between
  between_sound = runs_sound heap r sound are

  own : (h : ℕ) → spans width h r ≡ true → IsHugepageOf heap.config.huge h
  own h e = let parts = spans_parts width h r e in let arena = sound.runs.arena in record { from = omega (arith, are.from); to = omega (arith, are.to) }

  was_free : (h : ℕ) → spans width h r ≡ true → is_free (hugepage heap h) ≡ true
  was_free h e = let parts = spans_parts width h r e in are.free h parts.0 parts.1

  kinds : (h : ℕ) → spans width h r ≡ true → is_region (hugepage between h) ≡ true
  kinds h e = kinds_inner heap r sound are h (own h e) e

  known : Contains between.regions r
  known = Contains-new (λ (k : ℕ). k) r heap.regions

  -- The region opens.
  opened_measures : measures heap ≡ measures between
  opened_measures = measures_same heap heap.runs f sound.runs (λ h _. elim (cases_Bool (spans width h r)) [
    | inl t ↦ measured_none heap.runs h (hugepage heap h) (free_not_filler (hugepage heap h) (was_free h t))
        ∙ sym (ap (λ b. measured heap.runs h (cond b (region_page (hugepage heap h)) (hugepage heap h))) t)
    | inr e ↦ sym (ap (λ b. measured heap.runs h (cond b (region_page (hugepage heap h)) (hugepage heap h))) e)
  ])

  flag : (p : Hugepage → Bool) → ((x : Hugepage) → p (region_page x) ≡ true) → (h : ℕ) → cond (spans width h r) true (p (hugepage heap h)) ≡ p (f h (hugepage heap h))
  flag p busy h = grind (arith, nat_tests)

  opened_cache : without_run (cache_of heap) r width ≡ cache_of between
  opened_cache = grind (arith, nat_tests, same_cache, cache_of, flags_run, sound, is_taken, are, flag, is_unready)

  row_is : region_row heap.runs width r ≡ replicate (256 * width) false
  row_is = used_from-none heap.runs (256 * r) (256 * width) (λ page a b. (let h : ℕ = page / 256 in
      let e = spans_from width h r (omega arith) (omega arith) in
      free_none heap h sound (own h e) (was_free h e) page (page_of page)))

  opened_regions : regions.with_region (regions_of heap) r ≡ regions_of between
  opened_regions = grind (arith, row_is, map-with_item (region_row_of heap) (λ (k : ℕ). k) (λ (x : RegionRow). x.first) r heap.regions refl (λ k d l. refl))

  opened_now : regions.with_region old.regions r ≡ regions_of between
  opened_now = ap (λ (all : Regions). regions.with_region all r) is.shows.regions ∙ opened_regions

  there : region_with (regions.with_region old.regions r) (256 * r / 256) ≡ Some (region_row_of between r)
  there = ap (λ (all : Regions). region_with all (256 * r / 256)) opened_now ∙ come_found between between_sound n (256 * r) r known some (omega arith) (omega arith) kinds

  -- those that it doesn't reach keep their kinds
  kind_away : (h : ℕ) → IsHugepageOf heap.config.huge h → spans width h r ≡ false → (hugepage after h).kind ≡ (hugepage heap h).kind
  kind_away h own' e =
      let out = false_from_ne_true (reaches h run) (λ t. (let parts = reaches_parts h run t in false≢true (sym e ∙ spans_from width h r (omega arith) (omega arith)))) in
      ap (λ (x : Hugepage). x.kind) (here between after.runs between.regions (λ k x. cond (reaches k run) (all_backed x) x) heap.counts between_sound h own')
      ∙ ap (λ b. (cond b (all_backed (hugepage between h)) (hugepage between h)).kind) out
      ∙ ap (λ (x : Hugepage). x.kind) (here heap heap.runs between.regions f heap.counts sound.runs h own')
      ∙ ap (λ b. (cond b (region_page (hugepage heap h)) (hugepage heap h)).kind) e

  routed : (z : Run) → Contains after.runs z → IsRouted after z
  routed = routed_more heap after.runs after.regions heap.counts run sound is.well.routed after.hugepages
      (λ s has. Contains-old (λ (k : ℕ). k) r heap.regions s has)
      (λ h own'. elim (cases_Bool (spans width h r)) [ inl t ↦ inl (was_free h t) | inr e ↦ inr (kind_away h own' e) ])
      (inr (inr (record { region = r; known = known; from = omega arith; to = omega arith })))

  opened_at : IsOpening old heap n r (256 * r)
  opened_at =
      let same : old.config.region ≡ width = ap (λ (c : HeapConfig). c.region) is.shows.config in
      let huge : old.regions.huge ≡ heap.config.huge = ap (λ (all : Regions). all.huge) is.shows.regions in
      let wide_is : old.regions.width ≡ width = ap (λ (all : Regions). all.width) is.shows.regions in
      let free_row : n ≤ free_from (region_row heap.runs width r) (256 * r - 256 * r) =
      (let none : 256 * r - 256 * r ≡ 0 = omega arith in let all = prefix_len-replicate not (256 * width) false refl in rw (row_is, none) (omega arith)) in
      record {
        span = subst (λ w. IsSpan old.table r w is_free) (sym same) (free_span old heap is r width are);
        low = are.from;
        high = omega (arith, are.to);
        none = λ h a b. ap (λ (all : Regions). region_with all h) is.shows.regions
            ∙ region_missing heap h sound (false_from_ne_true _ (λ t. free_not_region (hugepage heap h) (are.free h a (omega arith)) t));
        fits = fits_used old heap is n (in_new_region heap n r) some given;
        same = sym same;
        reached = λ u means. (let size = ap length means.pages ∙ between_sound.arena in
            record {
              from = omega (arith, are.from);
              to = omega (arith, are.to);
              all = λ h a b. ap (λ xs. is_region (at xs h)) means.pages ∙ kinds h (spans_from width h r (omega arith) (omega arith));
            });
        row = region_row_of between r;
        free = record { row = there; free = free_row };
        room = subst (λ w. w ≤ free_from old.cache.taken (r - 1)) (sym same) (free_there old heap is r width are);
        makes = λ all changed. came_made old heap is n (in_new_region heap n r) some given _ _ _ routed
            (is.shows.filler ∙ opened_measures ∙ come_measures between between_sound n (256 * r) r known some (omega arith) (omega arith) kinds)
            (ap (λ (c : Cache). without_run c r old.config.region) is.shows.cache ∙ ap (without_run (cache_of heap) r) same ∙ opened_cache
            ∙ come_cache between between_sound n (256 * r) r known some (omega arith) (omega arith) kinds)
            (changed (region_row_of between r) there
            ∙ ap (λ (x : Regions). with_changed x r (joined (256 * r - 256 * r) n)) opened_now
            ∙ come_regions between between_sound n (256 * r) r known some (omega arith) (omega arith) kinds);
      }

  pub opening : (page : ℕ) → page ≡ 256 * r → IsOpening old heap n r page
  opening page e = subst (IsOpening old heap n r) (sym e) opened_at
