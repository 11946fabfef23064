-- A new run: what it gives, and that it gives none exactly where none fits.
use Rattle.std.proofs.Common.{◌≡◌, ℕ, ◌+◌, ◌-◌, ◌*◌, ◌<◌, ◌≤◌, Bool, true, false, not, ◌&&◌, ◌||◌, cond, nat_lt, nat_le, List, [], get_or, filter}
use Rattle.std.proofs.Common.{All, Contains, Option, Some, None, IfSome, option_map, option_and_then, refl, sym, ap, subst, ◌∙◌, inl, inr, arith}
use Rattle.std.specs.Prelude.{MatchOption}
use Rattle.std.specs.List.{list_all}
use Rattle.std.specs.Option.{option_or}
use Rattle.std.proofs.lemmas.Bool.{cases_Bool, cases_lt, and_parts, and_from, and_left, and_right, leb-true, lt-ltb, le-ltb, not_from_true, not_from_false}
use Rattle.std.proofs.lemmas.Option.{none-some}
use Rattle.std.proofs.lemmas.List.{length-map, get_or-map}
use Rattle.std.proofs.lemmas.List.Elements.{All-filter, filter_passes, Contains-get_or}
use Rattle.std.proofs.lemmas.List.Sums.{list_all-from_AllPass}
use Rattle.std.proofs.lemmas.List.Folds.{list_all_at}
use Rattle.std.proofs.lemmas.Bool.Decides.{nat_tests}
use Rattle.range_bits.specs.Ranges.{best, longest, first_least}
use Rattle.heap_rules.specs.Heap.{Heap, untouched, is_free, used_row, region_row}
use Rattle.heap_rules.specs.FillerRows.{FillerRow}
use Rattle.heap_rules.specs.FillerRows as filler
use Rattle.heap_rules.specs.RegionRows.{RegionRow}
use Rattle.heap_rules.specs.RegionRows as regions
use Rattle.heap_rules.specs.Choice.{filler_rows, run_choice, taken_row, region_rows, hugepages_for}
use Rattle.heap_rules.specs.New.{Placed, placed, run_or_tail, in_filler, in_fresh, new_small, new_whole, in_region, in_new_region, slack}
use Rattle.heap_rules.specs.New.{by_regions, suits_region, new_unsettled, none_fits}
use Rattle.heap_rules.specs.Settle.{settled}
use Rattle.heap_rules.specs.Sound.{IsRegion, IsSound}
use Rattle.heap_rules.specs.Laws.{IsGiven, NewGives}
use Rattle.range_bits.proofs.RangeLemmas.{first_least-all, first_least-none, filter-some}
use Rattle.range_bits.proofs.RangeFacts.{best_there}
use Rattle.heap_rules.proofs.Places.{at-place, map-place, region_row_of}
use Rattle.heap_rules.proofs.Chosen.{AreFree, run_choice_free, run_choice_none}
use Rattle.heap_rules.proofs.Fillers.{IsRowWithRoom, rows_fit, unused_at, given_filler}
use Rattle.heap_rules.proofs.Regions.{given_region, given_new_region}
use Rattle.heap_rules.proofs.Routes.{given_free, given_fresh}
use Rattle.heap_rules.proofs.Settled.{settled_sound}
use Rattle.heap_rules.proofs.Longest.{longest-le}

-- a run is given where `none` is false, and else `none` holds
abbrev IsAnswer : Heap → ℕ → Bool → Option Placed → Type 0
IsAnswer heap n none o = MatchOption o (none ≡ true) (λ p. IsGiven heap n p × (none ≡ false))

-- where no element of a list passes, and where one does
pub none_pass : {X : Type 0} (p : X → Bool) (xs : List X) → filter p xs ≡ [] → list_all (λ x. not (p x)) xs ≡ true
none_pass p xs e = grind (arith, cases_Bool, filter-some, list_all-from_AllPass, not_from_false)

-- a region with room
pub record IsRegionWithRoom (heap : Heap) (n : ℕ) (row : RegionRow) : Type 0 where
  pub number : ℕ
  pub row_is : row ≡ region_row_of heap number
  pub own : Contains heap.regions number
  pub region : IsRegion heap number
  pub room : regions.has_room n row ≡ true
  pub known : Contains (region_rows heap) row

pub regions_fit : (heap : Heap) (n : ℕ) → IsSound heap → All (IsRegionWithRoom heap n) (filter (regions.has_room n) (region_rows heap))
regions_fit heap n sound k d l =
    let row = get_or (filter (regions.has_room n) (region_rows heap)) k d in
    let known = All-filter (regions.has_room n) (Contains (region_rows heap)) (region_rows heap) (Contains-get_or (region_rows heap)) k d l in
    grind (
      arith,
      length-map heap.regions (region_row_of heap),
      get_or-map (region_row_of heap) heap.regions known.0 0 row,
      Contains-get_or heap.regions known.0 0,
      sound.regions known.0 0,
      filter_passes (regions.has_room n) (region_rows heap) k d l,
    )

-- Below a hugepage.
abbrev none_filler : Heap → ℕ → Bool
none_filler heap n = list_all (λ row. not (filler.has_room n row)) (filler_rows heap)

abbrev none_free : Heap → Bool
none_free heap = list_all (λ x. not (is_free x)) heap.hugepages

abbrev none_small : Heap → ℕ → Bool
none_small heap n = none_filler heap n && none_free heap

longest-all : (heap : Heap) → longest (taken_row heap) < 1 → none_free heap ≡ true
longest-all heap short = list_all-from_AllPass (λ x. not (is_free x)) heap.hugepages (λ k d l. elim (cases_Bool (is_free (get_or heap.hugepages k d))) [
  | inr f ↦ not_from_false _ f
  | inl t ↦
      (let len = length-map heap.hugepages (λ x. not (is_free x)) in
      let one = longest-le (taken_row heap) k 1 (omega arith) (omega arith)
      (λ j z. (let e : k ≡ k + j = omega arith in subst (λ i. get_or (taken_row heap) i true ≡ false) e (get_or-map (λ x. not (is_free x)) heap.hugepages k d true l ∙ not_from_true _ t))) in
      absurd (omega arith))
])

module _ (heap : Heap) (n : ℕ) (sound : IsSound heap) (some : 0 < n) where
  abbrev fillers : List FillerRow
  fillers = filter (filler.has_room n) (filler_rows heap)

  small_fresh : n < 256 → (o : Option ℕ) → run_choice heap 1 ≡ o → none_filler heap n ≡ true → IsAnswer heap n (none_small heap n) (option_map (in_fresh heap n) o)
  small_fresh small None e none = and_from _ _ none (longest-all heap (run_choice_none heap 1 (omega arith) e))
  small_fresh small (Some h) e none =
      let are = run_choice_free heap 1 h (omega arith) e in
      let free = ap is_free (sym (at-place heap.hugepages h are.from)) ∙ are.free h (omega arith) (omega arith) in (
        given_fresh heap n h 1 sound some (omega arith) are refl,
        and_right _ _ (list_all_at (λ x. not (is_free x)) heap.hugepages (h - 1) untouched (omega (arith, are.from, are.to)) (not_from_true _ free)),
      )

  small_own : (row : FillerRow) → IsRowWithRoom heap n row → (o : Option ℕ) → best row.used n ≡ o
      → IsAnswer heap n (none_small heap n) (option_or (option_map (in_filler heap n) (option_map (λ start. 256 * row.number + start) o)) (option_map (in_fresh heap n) (run_choice heap 1)))
  small_own row is None e = grind (arith, nat_tests, best_there row.used n some (leb-true n (longest row.used) is.room), none-some)
  small_own row is (Some s) e =
      let h = is.number in
      let at : row.number ≡ h = ap (λ (r : FillerRow). r.number) is.row_is in
      let place : best (used_row heap.runs h) n ≡ Some s = ap (λ (r : FillerRow). best r.used n) (sym is.row_is) ∙ e in
      let given : IsGiven heap n (in_filler heap n (256 * h + s)) = given_filler heap n h s sound some is.fitting (unused_at heap.runs (256 * h) 256 n s some place) in (
        subst (λ k. IsGiven heap n (in_filler heap n (256 * k + s))) (sym at) given,
        and_left _ _ (list_all_at (λ r. not (filler.has_room n r)) (filler_rows heap) is.known.0 row is.known.1 (ap (λ r. not (filler.has_room n r)) is.known.2 ∙ not_from_true _ is.room)),
      )

  small_by : n < 256 → (o : Option FillerRow) → first_least filler.is_preferred fillers ≡ o → IfSome o (IsRowWithRoom heap n) → IsAnswer heap n (none_small heap n)
      (option_or (option_map (in_filler heap n) (option_and_then (λ (row : FillerRow). option_map (λ start. 256 * row.number + start) (best row.used n)) o)) (option_map (in_fresh heap n) (run_choice heap 1)))
  small_by small None e is = small_fresh small (run_choice heap 1) refl (none_pass (filler.has_room n) (filler_rows heap) (first_least-none filler.is_preferred fillers e))
  small_by small (Some row) e is = small_own row is (best row.used n) refl

  given_small : n < 256 → IsAnswer heap n (none_small heap n) (new_small heap n)
  given_small small = small_by small (first_least filler.is_preferred fillers) refl (first_least-all (IsRowWithRoom heap n) filler.is_preferred fillers (rows_fit heap n))

  -- From a hugepage on.
  free_long : (h m : ℕ) → 0 < m → AreFree heap h m → m ≤ longest (taken_row heap)
  free_long h m pos are =
      let len = length-map heap.hugepages (λ x. not (is_free x)) in
      longest-le (taken_row heap) (h - 1) m pos (omega (arith, are.from, are.to)) (λ k l. (let e : h + k - 1 ≡ h - 1 + k = omega (arith, are.from) in
      subst (λ i. get_or (taken_row heap) i true ≡ false) e
      (map-place (λ x. not (is_free x)) heap.hugepages (h + k) true (omega (arith, are.from)) (omega (arith, are.to)) ∙ not_from_true _ (are.free (h + k) (omega arith) (omega arith)))))

  abbrev none_long : Bool
  none_long = nat_lt (longest (taken_row heap)) (hugepages_for n)

  whole_by : (other : Bool) → other ≡ true → (o : Option ℕ) → run_choice heap (hugepages_for n) ≡ o → IsAnswer heap n (none_long && other) (option_map (λ h. placed heap (256 * h) n (λ k _. run_or_tail (256 * h + n) k)) o)
  whole_by other t None e = and_from _ _ (lt-ltb (longest (taken_row heap)) (hugepages_for n) (run_choice_none heap (hugepages_for n) (omega arith) e)) t
  whole_by other t (Some h) e =
      let are = run_choice_free heap (hugepages_for n) h (omega arith) e in (
        given_free heap n h (hugepages_for n) sound some (omega arith) are,
        and_left _ _ (le-ltb (longest (taken_row heap)) (hugepages_for n) (free_long h (hugepages_for n) (omega arith) are)),
      )

  given_whole : (other : Bool) → other ≡ true → IsAnswer heap n (none_long && other) (new_whole heap n)
  given_whole other t = whole_by other t (run_choice heap (hugepages_for n)) refl

  abbrev no_region : Bool
  no_region = list_all (λ row. not (regions.has_room n row)) (region_rows heap)

  abbrev none_beside : Bool
  none_beside = none_long && no_region

  abbrev with_room : List RegionRow
  with_room = filter (regions.has_room n) (region_rows heap)

  -- a new region, or else whole hugepages
  abbrev in_new : Option Placed
  in_new = option_or (cond (nat_le heap.config.slack (slack heap n)) (option_map (in_new_region heap n) (run_choice heap heap.config.region)) None) (new_whole heap n)

  module _ (wide : 2 ≤ heap.config.region) (fits' : n ≤ 256 * heap.config.region) where
    new_region_by : no_region ≡ true → (o : Option ℕ) → run_choice heap heap.config.region ≡ o → IsAnswer heap n none_beside (option_or (option_map (in_new_region heap n) o) (new_whole heap n))
    new_region_by t None e = given_whole no_region t
    new_region_by t (Some r) e =
        grind (arith, nat_tests, run_choice_free heap heap.config.region r, free_long r heap.config.region, given_new_region heap r sound, and_left)

    given_beside : no_region ≡ true → IsAnswer heap n none_beside in_new
    given_beside t = grind (arith, given_whole, new_region_by)

    -- what the choice of a region gives
    own_by : (row : RegionRow) → IsRegionWithRoom heap n row → (o : Option ℕ) → best row.used n ≡ o
        → IsAnswer heap n none_beside (option_or (option_map (in_region heap n) (option_map (λ start. 256 * row.first + start) o)) in_new)
    own_by row is None e = grind (arith, nat_tests, best_there row.used n some (leb-true n (longest row.used) is.room), none-some)
    own_by row is (Some s) e =
        let r = is.number in
        let at : row.first ≡ r = ap (λ (x : RegionRow). x.first) is.row_is in
        let place : best (region_row heap.runs heap.config.region r) n ≡ Some s = ap (λ (x : RegionRow). best x.used n) (sym is.row_is) ∙ e in
        let given : IsGiven heap n (in_region heap n (256 * r + s)) = given_region heap n r s sound some is.region (unused_at heap.runs (256 * r) (256 * heap.config.region) n s some place) in (
          subst (λ k. IsGiven heap n (in_region heap n (256 * k + s))) (sym at) given,
          and_right _ _ (list_all_at (λ x. not (regions.has_room n x)) (region_rows heap) is.known.0 row is.known.1 (ap (λ x. not (regions.has_room n x)) is.known.2 ∙ not_from_true _ is.room)),
        )

    region_by : (o : Option RegionRow) → first_least regions.is_preferred with_room ≡ o → IfSome o (IsRegionWithRoom heap n)
        → IsAnswer heap n none_beside (option_or (option_map (in_region heap n) (option_and_then (λ (row : RegionRow). option_map (λ start. 256 * row.first + start) (best row.used n)) o)) in_new)
    region_by None e is = given_beside (none_pass (regions.has_room n) (region_rows heap) (first_least-none regions.is_preferred with_room e))
    region_by (Some row) e is = own_by row is (best row.used n) refl

    given_by_regions : IsAnswer heap n none_beside (by_regions heap n)
    given_by_regions =
        region_by (first_least regions.is_preferred with_room) refl (first_least-all (IsRegionWithRoom heap n) regions.is_preferred with_room (regions_fit heap n sound))

  abbrev IsLarge : Bool → Type 0
  IsLarge b = IsAnswer heap n (none_long && (not b || no_region)) (cond b (by_regions heap n) (new_whole heap n))

  given_large : 2 ≤ heap.config.region → IsLarge (suits_region heap.config n)
  given_large wide = grind (arith, and_parts, cases_Bool, given_by_regions, given_whole, leb-true)

  given_unsettled : 2 ≤ heap.config.region → IsAnswer heap n (none_fits heap n) (new_unsettled heap n)
  given_unsettled wide = grind (arith, cases_lt, given_large, given_small, le-ltb, lt-ltb)

-- settling changes no run
given_settled : (heap : Heap) (n : ℕ) (none : Bool) (o : Option Placed) → IsAnswer heap n none o → IsAnswer heap n none (option_map (λ (p : Placed). record p { heap = settled p.heap }) o)
given_settled heap n none None is = is
given_settled heap n none (Some p) is = (record { pages = is.0.pages; inside = is.0.inside; unused = is.0.unused; runs = is.0.runs; config = is.0.config; sound = settled_sound p.heap is.0.sound }, is.1)

pub new_gives : NewGives
new_gives heap n sound wide some = given_settled heap n (none_fits heap n) (new_unsettled heap n) (given_unsettled heap n sound some wide)
