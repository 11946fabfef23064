-- A run in a region that has room.
use Rattle.std.proofs.Common.{◌≡◌, ℕ, ◌+◌, ◌-◌, ◌*◌, ◌/◌, ◌^◌, ◌<◌, ◌≤◌, true, false, cond, length, filter, Contains, Option, Some, IfSome, option_map, option_and_then, refl}
use Rattle.std.proofs.Common.{ap, subst, ◌∙◌, inr, arith}
use Rattle.tc_units.specs.declared.rows.RowKind.TheVariants as kind
use Rattle.page_heap.proofs.Common.{All-contains, none-some, Run, best, first_least, free_from, first_least-all, Heap, Hugepage, hugepage, reaches, run_at}
use Rattle.page_heap.proofs.Common.{region_row, is_free, is_filler, is_region, is_kind, spans, RegionRow}
use Rattle.page_heap.proofs.Common.{region_place, region_row_of, region_rows, all_backed, in_region, IsRegion, AreRunsSound, IsSound, IsGiven}
use Rattle.page_heap.proofs.Common.{unused_at, reaches_parts, is_Region, spans_from, used_with_new, at, IsSpan, reached_by, Regions, region_with}
use Rattle.page_heap.proofs.Common.{with_changed, joined, start_in, AreFreeIn, Inside, measures, cache_of, regions_of, nat_tests}
use Rattle.range_bits.proofs.RangeFacts.{best_is_fit}
use Rattle.heap_rules.specs.RegionRows.{is_preferred, has_room}
use Rattle.heap_rules.proofs.Given.{IsRegionWithRoom, regions_fit}
use Rattle.heap_rules.proofs.Regions.{given_region}
use Rattle.page_heap.proofs.Steps.{IsStep, came}
use Rattle.page_heap.proofs.Frames.{measures_steady, cache_step}
use Rattle.page_heap.proofs.RegionRows.{region_found, regions_changed}
use Rattle.page_heap.proofs.Routed.{routed_with}
use Rattle.page_heap.proofs.Results.{IsHeap, IsMade, fits_used, came_made}

pub region_no_filler : (x : Hugepage) → is_region x ≡ true → is_filler x ≡ false
region_no_filler x e = ap (is_kind kind.Filler) (is_Region x.kind e)

pub region_busy : (x : Hugepage) → is_region x ≡ true → is_free x ≡ false
region_busy x e = ap (is_kind kind.Free) (is_Region x.kind e)

-- What a run that comes into a region makes of a heap, be it that no page of the region is used before.
module _ (heap : Heap) (runs : AreRunsSound heap) (n page r : ℕ) (known : Contains heap.regions r) (some : 0 < n) (from : 256 * r ≤ page)
    (to : page + n ≤ 256 * (r + heap.config.region)) (kinds : (h : ℕ) → spans heap.config.region h r ≡ true → is_region (hugepage heap h) ≡ true) where
  abbrev run : Run
  run = run_at page n

  abbrev g : ℕ → Hugepage → Hugepage
  g h x = all_backed x

  abbrev after : Heap
  after = (in_region heap n page).heap

  step : IsStep heap.runs after.runs run
  step = came run heap.runs

  pub region_there : (h : ℕ) → reaches h run ≡ true → is_region (hugepage heap h) ≡ true
  region_there h e = let parts = reaches_parts h run e in kinds h (spans_from heap.config.region h r (omega (arith, parts.1)) (omega (arith, parts.0)))

  pub come_measures : measures heap ≡ measures after
  come_measures = measures_steady heap after.runs g run runs step (λ h _ e. let none = region_no_filler (hugepage heap h) (region_there h e) in (none, none))

  pub come_cache : cache_of heap ≡ cache_of after
  come_cache = cache_step heap after.runs g run runs step (λ h _ e. let busy = region_busy (hugepage heap h) (region_there h e) in (busy, busy))

  pub come_found : region_with (regions_of heap) (page / 256) ≡ Some (region_row_of heap r)
  come_found = region_found heap r (page / 256) (runs.apart (page / 256)) known (spans_from heap.config.region (page / 256) r (omega arith) (omega arith))

  pub come_regions : with_changed (regions_of heap) r (joined (page - 256 * r) n) ≡ regions_of after
  come_regions = regions_changed heap after.runs after.hugepages run true step (λ p held. used_with_new run heap.runs p held) r runs.apart known from to (omega arith)

-- A place in a region: the region, and the run that lies there.
pub record IsPlaced (heap : Heap) (n page : ℕ) : Type 0 where
  pub region : ℕ
  pub known : Contains heap.regions region
  pub from : 256 * region ≤ page
  pub to : page + n ≤ 256 * (region + heap.config.region)
  pub free : n ≤ free_from (region_row heap.runs heap.config.region region) (page - 256 * region)
  pub given : IsGiven heap n (in_region heap n page)

placed_at : (heap : Heap) (n page r s : ℕ) → IsSound heap → 0 < n → Contains heap.regions r → best (region_row heap.runs heap.config.region r) n ≡ Some s → 256 * r + s ≡ page → IsPlaced heap n page
placed_at heap n page r s sound some known place e =
    let are = unused_at heap.runs (256 * r) (256 * heap.config.region) n s some place in
    let at : s ≡ page - 256 * r = omega arith in
    record {
      region = r;
      known = known;
      from = omega arith;
      to = omega (arith, are.to);
      free = subst (λ k. n ≤ free_from (region_row heap.runs heap.config.region r) k) at (best_is_fit (region_row heap.runs heap.config.region r) n s place).1;
      given = subst (λ p. IsGiven heap n (in_region heap n p)) e (given_region heap n r s sound some (All-contains (IsRegion heap) heap.regions r sound.regions known) are);
    }

placed_by : (heap : Heap) (n page : ℕ) → IsSound heap → 0 < n → (o : Option RegionRow) → IfSome o (IsRegionWithRoom heap n)
    → option_and_then (λ (row : RegionRow). option_map (λ start. 256 * row.first + start) (best row.used n)) o ≡ Some page → IsPlaced heap n page
placed_by heap n page sound some o is e = grind (arith, nat_tests, none-some, placed_at)

placed_in : (heap : Heap) (n page : ℕ) → IsSound heap → 0 < n → region_place (region_rows heap) n ≡ Some page → IsPlaced heap n page
placed_in heap n page sound some e =
    placed_by heap n page sound some (first_least is_preferred (filter (has_room n) (region_rows heap)))
    (first_least-all (IsRegionWithRoom heap n) is_preferred (filter (has_room n) (region_rows heap)) (regions_fit heap n sound)) e

-- What the calls ask as a run comes there, and what it makes.
pub record IsJoining (old : Inside) (heap : Heap) (n page : ℕ) : Type 0 where
  pub span : IsSpan old.table (page / 256) (reached_by page n) is_region
  pub row : RegionRow
  pub free : AreFreeIn old.regions page n row
  pub fits : old.used + n < 2 ^ 64
  pub makes : (regions : Regions) →
      ((row : RegionRow) → region_with old.regions (page / 256) ≡ Some row → regions ≡ with_changed old.regions row.first (joined (start_in row page) n)) →
      IsMade (in_region heap n page).heap old.config old.filler old.cache regions (old.used + n)

pub joining : (old : Inside) (heap : Heap) → IsHeap old heap → (n page : ℕ) → 0 < n → region_place (region_rows heap) n ≡ Some page → IsJoining old heap n page
joining old heap is n page some place =
    let sound = is.well.sound in
    let p = placed_in heap n page sound some place in
    let r : ℕ = p.region in
    let its : IsRegion heap r = All-contains (IsRegion heap) heap.regions r sound.regions p.known in
    let run : Run = run_at page n in
    let after : Heap = (in_region heap n page).heap in
    let f : ℕ → Hugepage → Hugepage = λ h x. cond (reaches h run) (all_backed x) x in
    let there = ap (λ (all : Regions). region_with all (page / 256)) is.shows.regions ∙ come_found heap sound.runs n page r p.known some p.from p.to its.kinds in
    let size = ap length is.shows.means.pages ∙ sound.runs.arena in
    record {
      span = record {
        from = omega (arith, its.from, p.from);
        to = omega (arith, its.to, p.to, p.from);
        all = λ h a b. ap (λ xs. is_region (at xs h)) is.shows.means.pages ∙ its.kinds h (spans_from heap.config.region h r (omega (arith, p.from)) (omega (arith, p.to, p.from)));
      };
      row = region_row_of heap r;
      free = record { row = there; free = p.free };
      fits = fits_used old heap is n (in_region heap n page) some p.given;
      makes = λ regions changed. came_made old heap is n (in_region heap n page) some p.given _ _ _
          (routed_with heap after.runs heap.regions heap.counts run sound is.well.routed f
          (λ s has. has)
          (λ h _. inr (elim (reaches h run) as (λ b. (cond b (all_backed (hugepage heap h)) (hugepage heap h)).kind ≡ (hugepage heap h).kind) [ true ↦ refl | false ↦ refl ]))
          (inr (inr (record { region = r; known = p.known; from = p.from; to = p.to }))))
          (is.shows.filler ∙ come_measures heap sound.runs n page r p.known some p.from p.to its.kinds)
          (is.shows.cache ∙ come_cache heap sound.runs n page r p.known some p.from p.to its.kinds)
          (changed (region_row_of heap r) there
          ∙ ap (λ (all : Regions). with_changed all r (joined (page - 256 * r) n)) is.shows.regions
          ∙ come_regions heap sound.runs n page r p.known some p.from p.to its.kinds);
    }
