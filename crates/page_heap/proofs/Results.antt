-- A page heap that means what it should: after a run has come, after one has left, and where none did.
use Rattle.std.proofs.Common.{◌≡◌, ℕ, ◌+◌, ◌-◌, ◌*◌, ◌^◌, ◌<◌, ◌≤◌, Bool, false, List, [], ◌∷◌, length, get_or, map, sum_by, Contains, Option, Some}
use Rattle.std.proofs.Common.{refl, sym, ap, subst, ◌∙◌, arith}
use Rattle.page_heap.proofs.Common.{length-map, sum_by-le, count_by-le-length, length-map-range_with_len, length-range_with_len, Run, sum_by-with_item}
use Rattle.page_heap.proofs.Common.{HeapConfig, RegionRow, Heap, Hugepage, numbers, each, is_used, used_row, used_count, given_back}
use Rattle.page_heap.proofs.Common.{region_row_of, Placed, IsHugepageOf, IsSound, IsGiven, given_back_sound, holds_from, Table, Means, Cache}
use Rattle.page_heap.proofs.Common.{Measures, Regions, Inside, heap_of, measures, cache_of, regions_of, Shows, IsWell, IsKept, IsRouted, IsTold, nat_tests}
use Rattle.huge_table.specs.Runs.{TellsRuns}
use Rattle.page_heap.proofs.Counted.{used_pages_are}
use Rattle.page_heap.proofs.Frames.{length-measures}
use Rattle.page_heap.proofs.Routed.{routed_given_back, routed_same}
use Rattle.page_heap.proofs.Steps.{none_begins, pages_rest}

-- a run that was placed, in the heap in which it lives
pub answer_is : (p : Placed) (run : Run) (heap : Heap) → p.run ≡ run → p.heap ≡ heap → ◌≡◌ {A = Option Placed} (Some p) (Some (record { run = run; heap = heap }))
answer_is p run heap e f = ap (λ (r : Run). Some (record { run = r; heap = p.heap })) e ∙ ap (λ (h : Heap). Some (record { run = run; heap = h })) f

-- The heap that the fields show is the one that they mean.
made : HeapConfig → List Run → List ℕ → List Hugepage → List ℕ → Heap
made config runs regions hugepages counts = record { config = config; runs = runs; regions = regions; hugepages = hugepages; counts = counts }

same_heap : (a b : Heap) → a.config ≡ b.config → a.runs ≡ b.runs → a.regions ≡ b.regions → a.hugepages ≡ b.hugepages → a.counts ≡ b.counts → a ≡ b
unfolding made
same_heap a b p q r s t = grind (arith, nat_tests)

firsts : (heap : Heap) (rs : List ℕ) → map (λ (x : RegionRow). x.first) (map (region_row_of heap) rs) ≡ rs
firsts heap [] = refl
firsts heap (r ∷ rs) = ap (λ ys. r ∷ ys) (firsts heap rs)

-- A page heap whose fields show a heap that is well.
pub record IsHeap (t : Inside) (heap : Heap) : Type 0 where
  pub shows : Shows t heap
  pub well : IsWell heap

pub is_heap : {t : Inside} {heap : Heap} → IsKept t → heap_of t ≡ heap → IsHeap t heap
is_heap {t} kept view = subst (IsHeap t) view (record { shows = kept.shows; well = kept.well })

pub view_by : {t : Inside} {heap : Heap} → IsHeap t heap → heap_of t ≡ heap
view_by {t} {heap} is = grind (arith, nat_tests, same_heap, firsts, is.shows.runs.told, is.well.sound, is.well.ordered, is.shows.means)

pub kept_by : {t : Inside} {heap : Heap} → IsHeap t heap → IsKept t
kept_by {t} is = let view = view_by is in record { shows = subst (Shows t) (sym view) is.shows; well = subst IsWell (sym view) is.well }

-- What a step makes of the fields beside the table, where these show the next heap.
pub record IsMade (after : Heap) (config : HeapConfig) (filler : List (Option Measures)) (cache : Cache) (regions : Regions) (used : ℕ) : Type 0 where
  pub well : IsWell after
  pub same : config ≡ after.config
  pub measured : filler ≡ measures after
  pub free : cache ≡ cache_of after
  pub rows : regions ≡ regions_of after
  pub sum : used ≡ sum_by (λ run. run.pages) after.runs

pub made_heap : {t : Inside} {after : Heap} {config : HeapConfig} {filler : List (Option Measures)} {cache : Cache} {regions : Regions} {used : ℕ} →
    IsMade after config filler cache regions used → t.config ≡ config → Means t.table after → TellsRuns t.table → t.filler ≡ filler → t.cache ≡ cache →
    t.regions ≡ regions → t.used ≡ used → IsHeap t after
made_heap made config means tells filler cache regions used = grind (arith, nat_tests, made.same, made.measured, made.free, made.rows, made.sum, made.well)

short_row : (a b : ℕ) → a ≤ b → b ≡ 256 → a ≤ 256
short_row a b h e = omega arith

bound : (a b c d e u : ℕ) → a ≤ b * 256 → b ≡ c → c ≡ d → a ≡ e → u ≡ e → u ≤ 256 * d
bound a b c d e u h p q r s = omega arith

-- not more pages are used than the arena has
few_used : (old : Inside) (heap : Heap) → IsHeap old heap → old.used ≤ 256 * heap.config.huge
few_used old heap is =
    let sound = is.well.sound in
    let row : (h : ℕ) → used_count heap.runs h ≤ 256 = λ h. short_row _ _ (count_by-le-length (λ (b : Bool). b) (used_row heap.runs h)) (length-map-range_with_len (is_used heap.runs) (256 * h) 256) in
    let most = sum_by-le (used_count heap.runs) 256 (numbers heap) (λ k d l. row (get_or (numbers heap) k d)) in
    bound _ _ _ _ _ _ most (length-range_with_len 1 (length heap.hugepages)) sound.runs.arena (used_pages_are heap sound) is.shows.used

-- the table has as many hugepages as the heap
pub as_many : {t : Inside} {heap : Heap} → IsHeap t heap → length t.table.pages ≡ heap.config.huge
as_many is = ap length is.shows.means.pages ∙ is.well.sound.runs.arena

-- What the choosers ask of a hugepage of which they are told: its number, and a heap that the table means.
pub record IsMeasuring (old : Inside) (u : Table) (k : ℕ) : Type 0 where
  pub low : 0 < k
  pub high : k ≤ length u.pages
  pub same : length old.filler ≡ length u.pages
  pub taken : length old.cache.taken ≡ length u.pages
  pub told : (heap : Heap) × IsTold u heap

within : (a c d k h : ℕ) → a ≡ c → d ≡ c → k ≡ h → h ≤ c → (k ≤ a) × (d ≡ a)
within a c d k h p q e l = (omega arith, omega arith)

pub measuring : {old : Inside} {heap : Heap} → IsHeap old heap → (after : Heap) → after.config ≡ heap.config → IsSound after → {u : Table} →
    Means u after → (h k : ℕ) → IsHugepageOf heap.config.huge h → k ≡ h → IsMeasuring old u k
measuring {old} {heap} is after config sound means h k own e = grind (arith, nat_tests, within, length-measures, length-map)

-- A run has come.
module _ (old : Inside) (heap : Heap) (is : IsHeap old heap) (n : ℕ) (p : Placed) (some : 0 < n) (given : IsGiven heap n p) where
  pub fits_used : old.used + n < 2 ^ 64
  fits_used = let few = few_used old heap is in omega (arith, few, is.well.limits.huge_to, given.inside.to, given.inside.from, given.pages, is.well.limits.huge_from)

  first_unused : is_used heap.runs p.run.first.0 ≡ false
  first_unused = given.unused p.run.first.0 (holds_from p.run.first.0 p.run (omega arith) (omega (arith, given.inside.some)))

  pub came_made : (filler : List (Option Measures)) (cache : Cache) (regions : Regions) → ((z : Run) → Contains p.heap.runs z → IsRouted p.heap z) →
      filler ≡ measures p.heap → cache ≡ cache_of p.heap → regions ≡ regions_of p.heap → IsMade p.heap old.config filler cache regions (old.used + n)
  came_made filler cache regions routed measured free rows = grind (arith, nat_tests, none_begins, first_unused, sum_by-with_item, sum_by)

-- A run has left.
module _ (old : Inside) (heap : Heap) (is : IsHeap old heap) (run : Run) (live : Contains heap.runs run) where
  pub run_counted : run.pages ≤ old.used
  run_counted = omega (arith, pages_rest heap run is.well.sound live, is.shows.used)

  pub left_made : (filler : List (Option Measures)) (cache : Cache) (regions : Regions) → filler ≡ measures (given_back heap run) →
      cache ≡ cache_of (given_back heap run) → regions ≡ regions_of (given_back heap run) → IsMade (given_back heap run) old.config filler cache regions
      (old.used - run.pages)
  left_made filler cache regions measured free rows = grind (
    arith,
    given_back_sound heap run is.well.sound live,
    routed_given_back heap run is.well.sound live is.well.routed,
    pages_rest heap run is.well.sound live,
  )

-- No run came or left, and each hugepage serves what it did.
pub same_made : (old : Inside) (heap : Heap) → IsHeap old heap → (f : ℕ → Hugepage → Hugepage) → ((h : ℕ) (x : Hugepage) → (f h x).kind ≡ x.kind) →
    IsSound (record heap { hugepages = each f heap.hugepages }) → (filler : List (Option Measures)) (cache : Cache) →
    filler ≡ measures (record heap { hugepages = each f heap.hugepages }) → cache ≡ cache_of (record heap { hugepages = each f heap.hugepages }) →
    IsMade (record heap { hugepages = each f heap.hugepages }) old.config filler cache old.regions old.used
same_made old heap is f kinds sound filler cache measured free = grind (arith, nat_tests, routed_same)
