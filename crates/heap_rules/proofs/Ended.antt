-- Regions without used pages end, and the whole of a free.
use Rattle.std.proofs.Common.{◌≡◌, ℕ, ◌+◌, ◌-◌, ◌*◌, ◌/◌, ◌<◌, ◌≤◌, Bool, true, false, not, ◌&&◌, cond, List, [], ◌∷◌, length, get_or, filter, All}
use Rattle.std.proofs.Common.{Contains, refl, sym, ap, subst, ◌∙◌, inl, inr, arith}
use Rattle.std.specs.List.{list_any}
use Rattle.std.proofs.lemmas.Bool.{cases_Bool, and_from, and_parts, and_left, and_right, false≢true, not_from_true, not_from_false, not-true, not-false, false_from_ne_true}
use Rattle.std.proofs.lemmas.List.Elements.{All-head, All-tail, All-filter, All-contains, filter_passes, Contains-get_or}
use Rattle.std.proofs.lemmas.List.Folds.{Any-from_list_any, list_any_at}
use Rattle.std.proofs.lemmas.List.FromFn.{length-map-range_with_len, get_or-map-range_with_len}
use Rattle.std.proofs.lemmas.Bool.Decides.{nat_tests}
use Rattle.tc_units.specs.declared.spans.Run.{Run}
use Rattle.tc_units.specs.declared.rows.RowKind.{RowKind}
use Rattle.tc_units.specs.declared.rows.RowKind.TheVariants as kind
use Rattle.heap_rules.specs.Heap.{Heap, Hugepage, hugepage, reaches, is_used, is_region, is_kind, spans, used_from, region_row, holds}
use Rattle.heap_rules.specs.Free.{left, used_regions, without_unused_regions, given_back}
use Rattle.heap_rules.specs.Sound.{IsHugepageOf, HasNoUsed, LiesInRegion, Serves, IsRegion, AreRunsSound, IsSound}
use Rattle.heap_rules.specs.Laws.{FreeLeaves}
use Rattle.heap_rules.proofs.Live.{count-filter_le, Contains-filter, filter_holds}
use Rattle.heap_rules.proofs.Fits.{holds_reaches, spans_parts, serves_at, is_Region, spans_from}
use Rattle.heap_rules.proofs.Remade.{AreRemade, same_runs, remade_sound, region_kinds}
use Rattle.heap_rules.proofs.Settled.{settled_sound, remade_not}
use Rattle.heap_rules.proofs.Left.{left_runs, left_kinds, used_rest, same_member}
use Rattle.heap_rules.proofs.Places.{each_is, page_of}

-- some of a range of pages is used exactly where one is
pub range_used : (runs : List Run) (first many p : ℕ) → first ≤ p → p < first + many → is_used runs p ≡ true → list_any (λ b. b) (used_from runs first many) ≡ true
range_used runs first many p a b e =
    let len = length-map-range_with_len (is_used runs) first many in
    list_any_at (λ b. b) (used_from runs first many) (p - first) false (omega arith) (get_or-map-range_with_len (is_used runs) first many (p - first) p false (omega arith) (omega arith) ∙ e)

pub record HasUsedIn (runs : List Run) (first many : ℕ) : Type 0 where
  pub page : ℕ
  pub from : first ≤ page
  pub to : page < first + many
  pub used : is_used runs page ≡ true

pub used_range : (runs : List Run) (first many : ℕ) → list_any (λ b. b) (used_from runs first many) ≡ true → HasUsedIn runs first many
used_range runs first many e = grind (arith, Any-from_list_any, length-map-range_with_len, get_or-map-range_with_len)

module _ (heap : Heap) (sound : AreRunsSound heap) (places : (r : ℕ) → Contains heap.regions r → (0 < r) × (r + heap.config.region ≤ heap.config.huge + 1))
    (kinds : (r : ℕ) → Contains heap.regions r → (h : ℕ) → spans heap.config.region h r ≡ true → is_region (hugepage heap h) ≡ true) where
  abbrev width : ℕ
  width = heap.config.region

  abbrev kept : List ℕ
  kept = used_regions heap

  abbrev has_used : ℕ → Bool
  has_used r = list_any (λ b. b) (region_row heap.runs width r)

  abbrev freed_page : Hugepage → Hugepage
  freed_page x = record x { kind = kind.Free }

  -- whether a hugepage is of a region that is left
  abbrev stays : ℕ → Bool
  stays h = list_any (spans width h) kept

  abbrev change : ℕ → Hugepage → Hugepage
  change h x = cond (is_region x && not (stays h)) (freed_page x) x

  -- a hugepage of no region that is left has no used page
  pub none_kept : (h : ℕ) → list_any (spans width h) kept ≡ false → LiesInRegion heap.regions width h → HasNoUsed heap.runs h
  none_kept h none lies p own =
      let r = lies.region in
      let parts = spans_parts width h r lies.spanned in
      false_from_ne_true (is_used heap.runs p) (λ e.
      let used = range_used heap.runs (256 * r) (256 * width) p (omega (arith, own.from)) (omega (arith, own.to)) e in
      let at : get_or heap.regions lies.known.0 r ≡ r = lies.known.2 in
      let has : Contains kept (get_or heap.regions lies.known.0 r) = Contains-filter has_used heap.regions lies.known.0 r lies.known.1 (ap has_used at ∙ used) in
      let there = list_any_at (spans width h) kept has.0 (get_or heap.regions lies.known.0 r) has.1 (ap (spans width h) (has.2 ∙ at) ∙ lies.spanned) in
      false≢true (sym none ∙ there))

  -- what serves a region lies in one that is left
  serves_kept : (h : ℕ) (x : Hugepage) (k : RowKind) → (is_kind kind.Region k && not (stays h)) ≡ false → Serves heap.runs heap.regions width h x k → Serves heap.runs kept width h x k
  serves_kept h x k e s = grind (arith, Any-from_list_any, not-false)

  ended_each : AreRemade heap heap.runs kept change
  ended_each h is = grind (arith, and_parts, cases_Bool, false≢true, is_Region, none_kept, not-true, remade_not, serves_at, serves_kept)

  kept_region : (k : ℕ) (d : ℕ) → k < length kept → IsRegion (without_unused_regions heap) (get_or kept k d)
  kept_region k d l =
      let r = get_or kept k d in
      let known : Contains heap.regions r = All-filter has_used (Contains heap.regions) heap.regions (λ i c j. Contains-get_or heap.regions i c j) k d l in
      let place = places r known in
      let has = used_range heap.runs (256 * r) (256 * width) (filter_passes has_used heap.regions k d l) in
      grind (arith, region_kinds heap heap.runs kept change heap.counts sound r place.0 place.1, list_any_at, and_right, not_from_true)

  pub ended_sound : IsSound (without_unused_regions heap)
  ended_sound = record {
    runs = remade_sound heap heap.runs kept change heap.counts sound (same_runs heap sound) (λ h. omega (arith, count-filter_le (spans width h) has_used heap.regions, sound.apart h)) ended_each;
    regions = kept_region;
  }

-- a heap that a run has left, before it settles
pub given_back_sound : (heap : Heap) (run : Run) → IsSound heap → Contains heap.runs run → IsSound (given_back heap run)
given_back_sound heap run sound live =
    let region : (r : ℕ) → Contains heap.regions r → IsRegion heap r = λ r known. All-contains (IsRegion heap) heap.regions r sound.regions known in
    ended_sound (left heap run) (left_runs heap run sound live) (λ r known. let is = region r known in (is.from, is.to))
    (λ r known. left_kinds heap run sound live r (region r known))

filter_all : {X : Type 0} (p : X → Bool) (xs : List X) → All (λ x. p x ≡ true) xs → filter p xs ≡ xs
filter_all p [] h = refl
filter_all p (x ∷ xs) h = grind (arith, filter_all p xs (All-tail (λ y. p y ≡ true) x xs h), All-head, All-tail)

-- whether a region has a used page
abbrev some_used : Heap → ℕ → Bool
some_used heap r = list_any (λ b. b) (region_row heap.runs heap.config.region r)

module _ (heap : Heap) (run : Run) (sound : IsSound heap) (live : Contains heap.runs run) where
  -- Where each region is still used, none ends.
  pub given_is_left : ((r : ℕ) → Contains heap.regions r → some_used (left heap run) r ≡ true) → given_back heap run ≡ left heap run
  given_is_left still =
      let now = left heap run in
      let runs = left_runs heap run sound live in
      let width : ℕ = heap.config.region in
      grind (
        arith,
        nat_tests,
        filter_all (some_used now) heap.regions (λ k d l. still (get_or heap.regions k d) (Contains-get_or heap.regions k d l)),
        still,
        Contains-get_or heap.regions,
        and_left,
        runs.fit,
        serves_at now.runs heap.regions width,
        is_Region,
        list_any_at,
        and_right,
        each_is,
      )

  -- It is so where the run reaches no region.
  pub all_used : ((h : ℕ) → reaches h run ≡ true → is_region (hugepage heap h) ≡ false) → (r : ℕ) → Contains heap.regions r → some_used (left heap run) r ≡ true
  all_used apart r known =
      let is = All-contains (IsRegion heap) heap.regions r sound.regions known in
      let h : ℕ = is.page / 256 in
      let reached : holds is.page run ≡ true → reaches h run ≡ true = holds_reaches h is.page run (page_of is.page) in
      let there = is.kinds h (spans_from heap.config.region h r (omega (arith, is.own)) (omega (arith, is.own_to))) in
      let away : holds is.page run ≡ false = false_from_ne_true _ (λ t. false≢true (sym (apart h (reached t)) ∙ there)) in
      range_used (left heap run).runs (256 * r) (256 * heap.config.region) is.page is.own is.own_to (used_rest heap run sound live is.page away is.used)

-- One region ends, where each other one has a used page.
module _ (heap : Heap) (first : ℕ) (sound : AreRunsSound heap) (listed : Contains heap.regions first) (unused : some_used heap first ≡ false)
    (alone : (r : ℕ) → Contains heap.regions r → some_used heap r ≡ false → r ≡ first) where
  abbrev width' : ℕ
  width' = heap.config.region

  abbrev stays' : ℕ → Bool
  stays' h = list_any (spans width' h) (used_regions heap)

  -- a region's hugepage of no region with a used page lies in the one that ends
  lies_there : (h : ℕ) → 0 < h → h ≤ length heap.hugepages → is_region (hugepage heap h) ≡ true → stays' h ≡ false → spans width' h first ≡ false → ⊥
  lies_there h some inside region none away =
      let x = hugepage heap h in
      let arena = sound.arena in
      let own : IsHugepageOf heap.config.huge h = record { from = some; to = omega arith } in
      let lies : LiesInRegion heap.regions width' h = (serves_at heap.runs heap.regions width' h x kind.Region (is_Region x.kind region) (sound.fit h own)).0 in
      grind (arith, nat_tests, filter_holds (some_used heap) heap.regions lies.region lies.known, list_any_at (spans width' h) (used_regions heap))

  -- the hugepages of the region that ends are those of no region that has a used page
  pub ended : (h : ℕ) → 0 < h → h ≤ length heap.hugepages → (spans width' h first ≡ true → is_region (hugepage heap h) ≡ true)
      → (is_region (hugepage heap h) && not (list_any (spans width' h) (used_regions heap))) ≡ spans width' h first
  ended h some inside kinds = elim (cases_Bool (spans width' h first)) [
    | inl e ↦ and_from _ _ (kinds e) (not_from_false _ (false_from_ne_true (stays' h) (λ t. (let any = Any-from_list_any (spans width' h) (used_regions heap) t in
        let r : ℕ = any.1 in
        let at_r : get_or (used_regions heap) any.0 r ≡ r = any.3 in
        let used : some_used heap r ≡ true = ap (some_used heap) (sym at_r) ∙ filter_passes (some_used heap) heap.regions any.0 r any.2 in
        let known = subst (Contains heap.regions) at_r (All-filter (some_used heap) (Contains heap.regions) heap.regions (Contains-get_or heap.regions) any.0 r any.2) in
        let same : r ≡ first = same_member (spans width' h) heap.regions r first known listed any.4 e (sound.apart h) in
        false≢true (sym unused ∙ ap (some_used heap) (sym same) ∙ used))))) ∙ sym e
    | inr e ↦ false_from_ne_true _ (λ t. (let parts = and_parts (is_region (hugepage heap h)) (not (stays' h)) t in lies_there h some inside parts.0 (not-true _ parts.1) e)) ∙ sym e
  ]

pub free_leaves : FreeLeaves
free_leaves heap run sound live = record { runs = refl; config = refl; sound = settled_sound (given_back heap run) (given_back_sound heap run sound live) }
