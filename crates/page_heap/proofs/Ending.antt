-- A run leaves a region, which ends where it has no used page left.
use Rattle.std.proofs.Common.{◌≡◌, ◌≢◌, ℕ, ◌+◌, ◌-◌, ◌*◌, ◌/◌, ◌<◌, ◌≤◌, ◌==◌, Bool, true, false, not, ◌&&◌, cond, List, [], ◌∷◌, length, get_or}
use Rattle.std.proofs.Common.{map, filter, drop, Contains, Some, refl, sym, ap, subst, ◌∙◌, inl, inr, arith}
use Rattle.page_heap.proofs.Common.{list_any, list_all, cases_Bool, false_from_ne_true, length-map, length-drop, get_or-drop, length-map-range_with_len}
use Rattle.page_heap.proofs.Common.{get_or-map-range_with_len, All-contains, Contains-get_or, Run, RowKind, any_is_count, count_some, filter-agree, HeapConfig}
use Rattle.page_heap.proofs.Common.{Heap, Hugepage, hugepage, is_used, reaches, is_free, is_filler, is_region, spans, RegionRow, region_row_of, left_by}
use Rattle.page_heap.proofs.Common.{used_regions, without_unused_regions, given_back, IsHugepageOf, IsRegion, AreRunsSound, IsSound, range_used}
use Rattle.page_heap.proofs.Common.{given_back_sound, given_is_left, ended, holds_from, reaches_parts, spans_parts, spans_from, is_Region, unreached_unheld}
use Rattle.page_heap.proofs.Common.{left_runs, left_kinds, same_member, unused_rest, used_rest, counts_used, prefix_long, at, map-at, page_of, here, Means}
use Rattle.page_heap.proofs.Common.{IsEnding, AllUsed, has_used, Table, IsSpan, reached_by, Cache, Regions, region_with, with_changed, without_region, start_in}
use Rattle.page_heap.proofs.Common.{is_unused, AreUsedIn, Inside, AreFreed, measured, measures, cache_of, regions_of, IsInRegion, IsTold, nat_tests}
use Rattle.tc_units.specs.Sorted.{without_key}
use Rattle.tc_units.specs.declared.rows.RowKind.TheVariants as kind
use Rattle.range_bits.specs.Ranges.{used_from}
use Rattle.heap_rules.specs.Heap.{holds, without_run}
use Rattle.heap_rules.specs.Heap as heaps
use Rattle.heap_rules.specs.Free as frees
use Rattle.huge_cache.specs.Cache.{holds as has}
use Rattle.huge_region.specs.Regions.{left}
use Rattle.page_heap.proofs.Numbered.{numbered}
use Rattle.page_heap.proofs.Steps.{IsStep, went}
use Rattle.page_heap.proofs.Frames.{is_taken, is_unready, measured_none, measures_same, measures_steady, flags_are, cache_step, holds_there}
use Rattle.page_heap.proofs.InRegion.{region_no_filler, region_busy}
use Rattle.page_heap.proofs.RegionRows.{region_found, regions_changed, row_put}
use Rattle.page_heap.proofs.Routed.{some_pages}
use Rattle.page_heap.proofs.Results.{IsHeap, IsMade, run_counted, left_made}

filter-map : {X Y : Type 0} (p : Y → Bool) (g : X → Y) (xs : List X) → filter p (map g xs) ≡ map g (filter (λ x. p (g x)) xs)
filter-map p g [] = refl
filter-map p g (x ∷ xs) =
    rw (filter-map p g xs) (grind (arith, nat_tests))

-- whether a region's row has a used page
unused_is : (heap : Heap) (r : ℕ) → is_unused (region_row_of heap r) ≡ not (has_used heap r)
unused_is heap r = grind (arith, nat_tests, any_is_count)

-- as many pages of a row are used as a run has from there on
used_long : (runs : List Run) (first many s n : ℕ) → s + n ≤ many → ((page : ℕ) → first + s ≤ page → page < first + s + n → is_used runs page ≡ true) →
    n ≤ used_from (heaps.used_from runs first many) s
used_long runs first many s n fits used =
    let row = heaps.used_from runs first many in let len = length-map-range_with_len (is_used runs) first many in
    let size = length-drop s row in prefix_long (λ (b : Bool). b) (drop s row) n false (omega arith)
    (λ k l. get_or-drop s row k false ∙ get_or-map-range_with_len (is_used runs) first many (s + k) (first + (s + k)) false (omega arith) refl ∙ used (first + (s + k)) (omega arith) (omega arith))

-- A region without a used page ends, where each other one has some.
module _ (heap : Heap) (r : ℕ) (sound : AreRunsSound heap) (ending : IsEnding heap r) (from : 0 < r) (to : r + heap.config.region ≤ heap.config.huge + 1)
    (kinds : (h : ℕ) → spans heap.config.region h r ≡ true → is_region (hugepage heap h) ≡ true) where
  abbrev width : ℕ
  width = heap.config.region

  abbrev regions' : List ℕ
  regions' = used_regions heap

  abbrev pub after_end : Heap
  after_end = without_unused_regions heap

  abbrev e : ℕ → Hugepage → Hugepage
  e h x = cond (is_region x && not (list_any (spans width h) regions')) (record x { kind = kind.Free }) x

  becomes : (h : ℕ) → IsHugepageOf heap.config.huge h → e h (hugepage heap h) ≡ cond (spans width h r) (record (hugepage heap h) { kind = kind.Free }) (hugepage heap h)
  becomes h is = grind (arith, nat_tests, ended, sound, kinds, is.from, is.to)

  end_is : (h : ℕ) → IsHugepageOf heap.config.huge h → hugepage after_end h ≡ cond (spans width h r) (record (hugepage heap h) { kind = kind.Free }) (hugepage heap h)
  end_is h is = here heap heap.runs regions' e heap.counts sound h is ∙ becomes h is

  pub end_free : (h : ℕ) → spans width h r ≡ true → is_free (hugepage after_end h) ≡ true
  end_free h t = grind (arith, nat_tests, spans_parts, end_is)

  pub end_measures : measures heap ≡ measures after_end
  end_measures =
      measures_same heap heap.runs e sound
      (λ h is. (let x = hugepage heap h in
      elim (cases_Bool (spans width h r)) [
        | inl t ↦ measured_none heap.runs h x (region_no_filler x (kinds h t))
            ∙ sym (ap (measured heap.runs h) (becomes h is ∙ ap (λ b. cond b (record x { kind = kind.Free }) x) t)
            ∙ measured_none heap.runs h (record x { kind = kind.Free }) refl)
        | inr n ↦ ap (measured heap.runs h) (sym (becomes h is ∙ ap (λ b. cond b (record x { kind = kind.Free }) x) n))
      ]))

  kept_is : regions' ≡ without_key (λ k. k) r heap.regions
  kept_is = filter-agree (has_used heap) (λ k. not (k == r)) heap.regions
      (λ k d l. grind (arith, nat_tests, Contains-get_or, ending.unused, ending.alone))

  pub end_regions : without_region (regions_of heap) r ≡ regions_of after_end
  end_regions = grind (arith, nat_tests, filter-map, kept_is)

  -- the free hugepages, with those of the region
  end_flags : (p : Hugepage → Bool) (flag : ℕ → Bool) (row : List Bool) → ((h : ℕ) → spans width h r ≡ true → flag h ≡ p (hugepage after_end h)) →
      length row ≡ length (map p heap.hugepages) →
      ((h : ℕ) → 0 < h → h ≤ length (map p heap.hugepages) → numbered row h true ≡ cond (spans width h r) (flag h)
      (numbered (map p heap.hugepages) h true)) → row ≡ map p after_end.hugepages
  end_flags p flag row same size is_row =
      let len = length-map heap.hugepages p in flags_are heap e sound p row (size ∙ len)
      (λ h is.
      is_row h is.from (omega (arith, is.to))
      ∙ ap (cond (spans width h r) (flag h)) (map-at p heap.hugepages h true is.from (omega (arith, is.to)))
      ∙ elim (cases_Bool (spans width h r)) [
        | inl t ↦ ap (λ b. cond b (flag h) (p (hugepage heap h))) t ∙ same h t ∙ ap p (here heap heap.runs regions' e heap.counts sound h is)
        | inr n ↦ ap (λ b. cond b (flag h) (p (hugepage heap h))) n ∙ ap p (sym (becomes h is ∙ ap (λ b. cond b (record (hugepage heap h) { kind = kind.Free }) (hugepage heap h)) n))
      ])

  pub end_cache : (cache : Cache) → AreFreed (cache_of heap) cache after_end r width → cache ≡ cache_of after_end
  end_cache cache is =
      is.rest
      ∙ ap (λ (t : List Bool). record (cache_of heap) { taken = t; unready = cache.unready }) (end_flags is_taken (λ h. false) cache.taken (λ h t. sym (ap not (end_free h t))) is.size is.taken)
      ∙ ap (λ (u : List Bool). record (cache_of after_end) { unready = u })
      (end_flags is_unready (λ h. not (list_all (λ b. b) (hugepage after_end h).backed)) cache.unready
      (λ h t. sym (ap (λ b. not (b && list_all (λ c. c) (hugepage after_end h).backed)) (end_free h t))) is.unready_size is.unready)

-- What the calls ask as a run leaves a region.
pub record IsLeaving (old : Inside) (run : Run) : Type 0 where
  pub span : IsSpan old.table (run.first.0 / 256) (reached_by run.first.0 run.pages) is_region
  pub some : 0 < run.pages
  pub row : RegionRow
  pub used : AreUsedIn old.regions run.first.0 run.pages row
  pub counted : run.pages ≤ old.used

-- what the regions are then, and whether one of them has no used page
abbrev pub HasLeft : Inside → Run → Regions → Type 0
HasLeft old run all = (row : RegionRow) → region_with old.regions (run.first.0 / 256) ≡ Some row → all ≡ with_changed old.regions row.first (left (start_in row run.first.0) run.pages)

-- what they ask where the region ends, and what that makes
pub record IsEnded (old : Inside) (after : Heap) (r : ℕ) (table : Table) : Type 0 where
  pub span : IsSpan table r old.config.region is_free
  pub taken : length old.cache.taken ≡ length table.pages
  pub unready : length old.cache.unready ≡ length table.pages
  pub out : (h : ℕ) → r ≤ h → h < r + old.config.region → has old.cache h ≡ false
  pub told : IsTold table after

pub record IsGone (old : Inside) (heap : Heap) (run : Run) (table : Table) (all : Regions) (first : ℕ) : Type 0 where
  pub span : IsSpan table first old.config.region is_region
  pub row : RegionRow
  pub found : region_with all first ≡ Some row
  pub first_is : row.first ≡ first
  pub unused : is_unused row ≡ true
  pub means : (v : Table) → ((h : Heap) → h.config.region ≡ old.config.region → AreRunsSound h → IsEnding h first → Means table h → Means v (without_unused_regions h)) → Means v (given_back heap run)
  pub ended : (v : Table) → Means v (given_back heap run) → IsEnded old (given_back heap run) first v
  pub makes : (cache : Cache) → AreFreed old.cache cache (given_back heap run) first old.config.region →
      IsMade (given_back heap run) old.config old.filler cache (without_region all first) (old.used - run.pages)

module _ (old : Inside) (heap : Heap) (is : IsHeap old heap) (run : Run) (live : Contains heap.runs run) (route : IsInRegion heap run) where
  sound : IsSound heap
  sound = is.well.sound

  abbrev k : ℕ
  k = route.region

  abbrev s : ℕ
  s = run.first.0 - 256 * k

  abbrev rest : List Run
  rest = without_run run heap.runs

  abbrev before : Heap
  before = frees.left heap run

  abbrev g : ℕ → Hugepage → Hugepage
  g h x = left_by x.kind rest h x

  wide : 0 < heap.config.region
  wide = omega (arith, is.well.limits.region_from)

  some : 0 < run.pages
  some = some_pages heap run sound live

  its : IsRegion heap k
  its = All-contains (IsRegion heap) heap.regions k sound.regions route.known

  step : IsStep heap.runs rest run
  step = went heap run sound live

  own : (h : ℕ) → reaches h run ≡ true → spans heap.config.region h k ≡ true
  own h t = let parts = reaches_parts h run t in spans_from heap.config.region h k (omega (arith, route.from, parts.1)) (omega (arith, route.to, parts.0))

  region_there : (h : ℕ) → reaches h run ≡ true → is_region (hugepage heap h) ≡ true
  region_there h t = its.kinds h (own h t)

  same_there : (h : ℕ) → reaches h run ≡ true → g h (hugepage heap h) ≡ hugepage heap h
  same_there h t = ap (λ (j : RowKind). left_by j rest h (hugepage heap h)) (is_Region (hugepage heap h).kind (region_there h t))

  -- the region, as it was and as it is then
  abbrev was : RegionRow
  was = region_row_of heap k

  found : region_with old.regions (run.first.0 / 256) ≡ Some was
  found = grind (arith, region_found heap k (run.first.0 / 256) (sound.runs.apart (run.first.0 / 256)) route.known)

  live_used : (p : ℕ) → holds p run ≡ true → is_used heap.runs p ≡ true
  live_used p t = let there : get_or heap.runs live.0 run ≡ run = live.2 in counts_used heap.runs p (count_some (holds p) heap.runs live.0 run live.1 (ap (holds p) there ∙ t))

  pub leaving : IsLeaving old run
  leaving =
      let size = ap length is.shows.means.pages ∙ sound.runs.arena in
      record {
        span = record {
          from = omega (arith, its.from, route.from);
          to = omega (arith, its.to, route.to, route.from, some);
          all = λ h a b. ap (λ xs. is_region (at xs h)) is.shows.means.pages ∙ its.kinds h (spans_from heap.config.region h k (omega (arith, route.from)) (omega (arith, route.to, route.from, some)));
        };
        some = some;
        row = was;
        used = grind (arith, found, used_long heap.runs (256 * k) (256 * heap.config.region) s run.pages, live_used, holds_from);
        counted = run_counted old heap is run live;
      }

  regions_then : (all : Regions) → HasLeft old run all → all ≡ regions_of before
  regions_then all given =
      given was found ∙ ap (λ (x : Regions). with_changed x k (left (start_in was run.first.0) run.pages)) is.shows.regions
      ∙ regions_changed heap rest before.hugepages run false step (λ p t. unused_rest heap run sound live p t) k sound.runs.apart route.known route.from route.to wide

  then_is : left s run.pages was ≡ region_row_of before k
  then_is = ap (λ (row : List Bool). let x : RegionRow = record { first = k; used = row } in x)
      (row_put heap.runs rest run false step (λ p t. unused_rest heap run sound live p t) (256 * k) (256 * heap.config.region) s (omega (arith, route.from)) (omega (arith, route.from, route.to)))

  used_then : (b : Bool) → is_unused (left s run.pages was) ≡ b → not (has_used before k) ≡ b
  used_then b t = sym (unused_is before k) ∙ ap is_unused (sym then_is) ∙ t

  -- each other region has a used page still
  others : (r : ℕ) → Contains heap.regions r → r ≢ k → has_used before r ≡ true
  others r known ne =
      let other : IsRegion heap r = All-contains (IsRegion heap) heap.regions r sound.regions known in
      let h : ℕ = other.page / 256 in
      let mine : spans heap.config.region h r ≡ true = spans_from heap.config.region h r (omega (arith, other.own)) (omega (arith, other.own_to)) in
      let out : reaches h run ≡ false =
      false_from_ne_true (reaches h run)
      (λ t. ne (same_member (spans heap.config.region h) heap.regions r k known route.known mine (own h t) (sound.runs.apart h))) in
      let used = used_rest heap run sound live other.page (unreached_unheld h other.page run (page_of other.page) out) other.used in
      range_used rest (256 * r) (256 * heap.config.region) other.page other.own other.own_to used

  before_measures : measures heap ≡ measures before
  before_measures = measures_steady heap rest g run sound.runs step (λ h _ t. (let none = region_no_filler (hugepage heap h) (region_there h t) in (none, ap is_filler (same_there h t) ∙ none)))

  before_cache : cache_of heap ≡ cache_of before
  before_cache = cache_step heap rest g run sound.runs step (λ h _ t. (let none = region_busy (hugepage heap h) (region_there h t) in (none, ap is_free (same_there h t) ∙ none)))

  -- Where it has one too, it stays.
  pub stays : (all : Regions) → HasLeft old run all →
      ((row : RegionRow) → region_with old.regions (run.first.0 / 256) ≡ Some row → is_unused (left (start_in row run.first.0) run.pages row) ≡ false) →
      AllUsed before × IsMade (given_back heap run) old.config old.filler old.cache all (old.used - run.pages)
  stays all given answer =
      let used : AllUsed before = grind (arith, nat_tests, used_then false (answer was found), answer was found, found, others) in
      let same : given_back heap run ≡ before = given_is_left heap run sound live used in (
        used,
        left_made old heap is run live _ _ _
            (is.shows.filler ∙ before_measures ∙ ap measures (sym same))
            (is.shows.cache ∙ before_cache ∙ ap cache_of (sym same))
            (regions_then all given ∙ ap regions_of (sym same)),
      )

  -- Where it has none, it ends.
  module _ (none : is_unused (left s run.pages was) ≡ true) where
    ending : IsEnding before k
    ending = grind (arith, nat_tests, used_then, others)

    runs : AreRunsSound before
    runs = left_runs heap run sound live

    kinds : (h : ℕ) → spans heap.config.region h k ≡ true → is_region (hugepage before h) ≡ true
    kinds h t = left_kinds heap run sound live k its h t

    same : old.config.region ≡ heap.config.region
    same = ap (λ (c : HeapConfig). c.region) is.shows.config

    ended_now : (u : Table) → Means u (given_back heap run) → IsEnded old (given_back heap run) k u
    ended_now u means =
        let arena = sound.runs.arena in let last = given_back_sound heap run sound live in
        let size = ap length means.pages ∙ last.runs.arena in
        let taken = ap (λ (c : Cache). length c.taken) is.shows.cache ∙ length-map heap.hugepages is_taken in
        let unready = ap (λ (c : Cache). length c.unready) is.shows.cache ∙ length-map heap.hugepages is_unready in
        record {
          span = record {
            from = its.from;
            to = omega (arith, its.to, same);
            all = λ h a b. ap (λ xs. is_free (at xs h)) means.pages ∙ end_free before k runs ending its.from its.to kinds h (spans_from heap.config.region h k a (omega (arith, same)));
          };
          taken = taken ∙ arena ∙ sym size;
          unready = unready ∙ arena ∙ sym size;
          out = λ h a b. ap (λ (c : Cache). has c h) is.shows.cache ∙ holds_there heap h (omega (arith, its.from)) (omega (arith, its.to, same))
              ∙ region_busy (hugepage heap h) (its.kinds h (spans_from heap.config.region h k a (omega (arith, same))));
          told = record { sound = last; means = means };
        }

    gone_there : (u : Table) (all : Regions) → Means u before → all ≡ regions_of before → IsGone old heap run u all k
    gone_there u all means now = record {
      span = (let size = ap length means.pages ∙ runs.arena in
          record {
            from = its.from;
            to = omega (arith, its.to, same);
            all = λ h a b. ap (λ xs. is_region (at xs h)) means.pages ∙ kinds h (spans_from heap.config.region h k a (omega (arith, same)));
          });
      row = region_row_of before k;
      found = ap (λ (x : Regions). region_with x k) now ∙ region_found before k k (runs.apart k) route.known (spans_from heap.config.region k k (omega arith) (omega (arith, wide)));
      first_is = refl;
      unused = ap is_unused (sym then_is) ∙ none;
      means = λ v by. by before (sym same) runs ending means;
      ended = ended_now;
      makes = λ cache freed. left_made old heap is run live _ _ _
          (is.shows.filler ∙ before_measures ∙ end_measures before k runs ending its.from its.to kinds)
          (end_cache before k runs ending its.from its.to kinds cache (rw (is.shows.cache ∙ before_cache, same) at freed))
          (ap (λ (x : Regions). without_region x k) now ∙ end_regions before k runs ending its.from its.to kinds);
    }

  pub gone : (u : Table) (all : Regions) (first : ℕ) → Means u before → HasLeft old run all →
      ((row : RegionRow) → region_with old.regions (run.first.0 / 256) ≡ Some row →
      (first ≡ row.first) × (is_unused (left (start_in row run.first.0) run.pages row) ≡ true)) → IsGone old heap run u all first
  gone u all first means given answer = let is_none = answer was found in subst (IsGone old heap run u all) (sym is_none.0) (gone_there is_none.1 u all means (regions_then all given))
