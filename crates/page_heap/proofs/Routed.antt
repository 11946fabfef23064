-- By which route a live run was placed stays true of it while others come and go.
use Rattle.std.proofs.Common.{◌≡◌, ℕ, ◌+◌, ◌*◌, ◌<◌, ◌≤◌, ◌⊎◌, ◌==◌, true, false, not, ◌&&◌, cond, max, List, get_or, All, Contains, refl, sym, ap}
use Rattle.std.proofs.Common.{subst, ◌∙◌, inl, inr, arith}
use Rattle.page_heap.proofs.Common.{list_any, cases_Bool, and_parts, not-true, false≢true, All-contains, All-filter, Contains-get_or, Run, RowKind}
use Rattle.page_heap.proofs.Common.{count_some, All-with_item, Heap, Hugepage, hugepage, each, reaches, with_run, allocation_count, is_free, is_region}
use Rattle.page_heap.proofs.Common.{spans, left_by, used_regions, given_back, IsInside, IsHugepageOf, HasNoUsed, IsRegion, AreRunsSound, IsSound}
use Rattle.page_heap.proofs.Common.{Contains-filter, counts_used, at, holds_from, reaches_parts, serves_at, is_Free, is_Region, remade, here}
use Rattle.page_heap.proofs.Common.{fewer, own_run, left_runs, left_kinds, none_kept, range_used, has_used, IsRouted, nat_tests}
use Rattle.tc_units.specs.declared.rows.RowKind.TheVariants as kind
use Rattle.heap_rules.specs.Heap.{holds, without_run}
use Rattle.heap_rules.specs.Free.{left}

-- a hugepage that a live run reaches has a run
reached_some : (runs : List Run) (z : Run) (h : ℕ) → Contains runs z → reaches h z ≡ true → 0 < allocation_count runs h
reached_some runs z h live e = let at : get_or runs live.0 z ≡ z = live.2 in count_some (reaches h) runs live.0 z live.1 (ap (reaches h) at ∙ e)

pub no_run_there : (huge : ℕ) (runs : List Run) (z : Run) (h : ℕ) → All (IsInside huge) runs → Contains runs z → reaches h z ≡ true → HasNoUsed runs h → ⊥
no_run_there huge runs z h inside live e none =
    let is : IsInside huge z = All-contains (IsInside huge) runs z inside live in
    let parts = reaches_parts h z e in
    let p : ℕ = max z.first.0 (256 * h) in
    let held : holds p z ≡ true = holds_from p z (omega arith) (omega (arith, is.some)) in
    let there : get_or runs live.0 z ≡ z = live.2 in
    false≢true (sym (none p (record { from = omega arith; to = omega arith })) ∙ counts_used runs p (count_some (holds p) runs live.0 z live.1 (ap (holds p) there ∙ held)))

-- a free hugepage has no used page
pub free_none : (heap : Heap) (h : ℕ) → IsSound heap → IsHugepageOf heap.config.huge h → is_free (hugepage heap h) ≡ true → HasNoUsed heap.runs h
free_none heap h sound is free = (serves_at heap.runs heap.regions heap.config.region h (hugepage heap h) kind.Free (is_Free (hugepage heap h).kind free) (sound.runs.fit h is)).0

-- A route stays where the hugepages that the run reaches keep their kinds, and its region stays.
pub route_kept : (heap : Heap) (runs : List Run) (regions : List ℕ) (hugepages : List Hugepage) (counts : List ℕ) (z : Run) → 0 < z.pages →
    IsRouted heap z → ((h : ℕ) → reaches h z ≡ true → (at hugepages h).kind ≡ (hugepage heap h).kind) →
    ((r : ℕ) → Contains heap.regions r → 256 * r ≤ z.first.0 → z.first.0 + z.pages ≤ 256 * (r + heap.config.region) → Contains regions r) →
    IsRouted (record heap { runs = runs; regions = regions; hugepages = hugepages; counts = counts }) z
route_kept heap runs regions hugepages counts z some h kinds known = grind (arith, nat_tests)

pub some_pages : (heap : Heap) (z : Run) → IsSound heap → Contains heap.runs z → 0 < z.pages
some_pages heap z sound live = let inside : IsInside heap.config.huge z = All-contains (IsInside heap.config.huge) heap.runs z sound.runs.inside live in inside.some

pub in_arena : (heap : Heap) (z : Run) (h : ℕ) → IsSound heap → Contains heap.runs z → reaches h z ≡ true → IsHugepageOf heap.config.huge h
in_arena heap z h sound live e = grind (arith, nat_tests)

-- Where hugepages change in other ways alone.
pub routed_same : (heap : Heap) (f : ℕ → Hugepage → Hugepage) (counts : List ℕ) → IsSound heap → ((h : ℕ) (x : Hugepage) → (f h x).kind ≡ x.kind) →
    ((z : Run) → Contains heap.runs z → IsRouted heap z) → (z : Run) → Contains heap.runs z → IsRouted (remade heap heap.runs heap.regions f counts) z
routed_same heap f counts sound kinds routed z live =
    route_kept heap heap.runs heap.regions (each f heap.hugepages) counts z (some_pages heap z sound live) (routed z live)
    (λ h e. ap (λ (x : Hugepage). x.kind) (here heap heap.runs heap.regions f counts sound.runs h (in_arena heap z h sound live e)) ∙ kinds h (hugepage heap h))
    (λ r known a b. known)

-- When a run comes: what it reaches was free, or keeps its kind.
module _ (heap : Heap) (runs' : List Run) (regions' : List ℕ) (counts : List ℕ) (run : Run) (sound : IsSound heap) (routed : (z : Run) → Contains heap.runs z → IsRouted heap z) where
  pub routed_more : (hugepages : List Hugepage) → ((r : ℕ) → Contains heap.regions r → Contains regions' r) →
      ((h : ℕ) → IsHugepageOf heap.config.huge h → (is_free (hugepage heap h) ≡ true) ⊎ ((at hugepages h).kind ≡ (hugepage heap h).kind)) →
      IsRouted (record heap { runs = runs'; regions = regions'; hugepages = hugepages; counts = counts }) run → (z : Run) →
      Contains (with_run run heap.runs) z → IsRouted (record heap { runs = runs'; regions = regions'; hugepages = hugepages; counts = counts }) z
  routed_more hugepages known kinds own z live =
      let after : Heap = record heap { runs = runs'; regions = regions'; hugepages = hugepages; counts = counts } in
      All-contains (IsRouted after) (with_run run heap.runs) z
      (All-with_item (λ (r : Run). r.first.0) (IsRouted after) run heap.runs own
      (λ k d l.
      (let old = get_or heap.runs k d in
      let has : Contains heap.runs old = Contains-get_or heap.runs k d l in
      route_kept heap runs' regions' hugepages counts old (some_pages heap old sound has) (routed old has)
      (λ h e.
      (let is = in_arena heap old h sound has e in
      elim (kinds h is) [
        | inl free ↦ absurd (no_run_there heap.config.huge heap.runs old h sound.runs.inside has e (free_none heap h sound is free))
        | inr same ↦ same
      ]))
      (λ r here' a b. known r here')))) live

  pub routed_with : (f : ℕ → Hugepage → Hugepage) → ((r : ℕ) → Contains heap.regions r → Contains regions' r) →
      ((h : ℕ) → IsHugepageOf heap.config.huge h → (is_free (hugepage heap h) ≡ true) ⊎ ((f h (hugepage heap h)).kind ≡ (hugepage heap h).kind)) →
      IsRouted (remade heap runs' regions' f counts) run → (z : Run) → Contains (with_run run heap.runs) z →
      IsRouted (remade heap runs' regions' f counts) z
  routed_with f known kinds = routed_more (each f heap.hugepages) known (λ h is. elim (kinds h is) [
    | inl free ↦ inl free
    | inr same ↦ inr (ap (λ (x : Hugepage). x.kind) (here heap runs' regions' f counts sound.runs h is) ∙ same)
  ])

-- When a run leaves.
module _ (heap : Heap) (run : Run) (sound : IsSound heap) (live : Contains heap.runs run) (routed : (z : Run) → Contains heap.runs z → IsRouted heap z) where
  abbrev rest : List Run
  rest = without_run run heap.runs

  others : (z : Run) → Contains rest z → Contains heap.runs z
  others z has = All-contains (Contains heap.runs) rest z (All-filter (λ r. not (r.first.0 == run.first.0)) (Contains heap.runs) heap.runs (λ i c j. Contains-get_or heap.runs i c j)) has

  -- a hugepage that another run reaches keeps its kind
  kind_left : (z : Run) (h : ℕ) (k : RowKind) → Contains rest z → reaches h z ≡ true → (hugepage heap h).kind ≡ k →
      (cond (reaches h run) (left_by k rest h (hugepage heap h)) (hugepage heap h)).kind ≡ k
  kind_left z h kind.Free has e is = elim (reaches h run) as (λ b. (cond b (hugepage heap h) (hugepage heap h)).kind ≡ kind.Free) [ true ↦ is | false ↦ is ]
  kind_left z h kind.Region has e is = elim (reaches h run) as (λ b. (cond b (hugepage heap h) (hugepage heap h)).kind ≡ kind.Region) [ true ↦ is | false ↦ is ]
  kind_left z h kind.Filler has e is = grind (arith, nat_tests, reached_some rest z h has e)
  kind_left z h kind.Run has e is = elim (cases_Bool (reaches h run)) [
    | inr n ↦ ap (λ b. (cond b (left_by kind.Run rest h (hugepage heap h)) (hugepage heap h)).kind) n ∙ is
    | inl t ↦
        (let in' = in_arena heap run h sound live t in
        let one = (serves_at heap.runs heap.regions heap.config.region h (hugepage heap h) kind.Run is (sound.runs.fit h in')).0 in
        absurd (no_run_there heap.config.huge rest z h (fewer heap run sound live).inside has e (own_run heap run sound live h t one)))
  ]

  routed_left : (z : Run) → Contains rest z → IsRouted (left heap run) z
  routed_left z has =
      let f : ℕ → Hugepage → Hugepage = λ h x. cond (reaches h run) (left_by x.kind rest h x) x in
      route_kept heap rest heap.regions (each f heap.hugepages) heap.counts z (some_pages heap z sound (others z has)) (routed z (others z has))
      (λ h e. ap (λ (x : Hugepage). x.kind) (here heap rest heap.regions f heap.counts sound.runs h (in_arena heap z h sound (others z has) e)) ∙ kind_left z h (hugepage heap h).kind has e refl)
      (λ r known a b. known)

  -- a region with another run in it stays
  pub routed_given_back : (z : Run) → Contains rest z → IsRouted (given_back heap run) z
  routed_given_back z has =
      let before : Heap = left heap run in
      let now : AreRunsSound before = left_runs heap run sound live in
      let kept : List ℕ = used_regions before in
      let g : ℕ → Hugepage → Hugepage = λ h x. cond (is_region x && not (list_any (spans heap.config.region h) kept)) (record x { kind = kind.Free }) x in
      let region : (r : ℕ) → Contains heap.regions r → IsRegion heap r = λ r known. All-contains (IsRegion heap) heap.regions r sound.regions known in
      let some = some_pages heap z sound (others z has) in
      route_kept before rest kept (each g before.hugepages) heap.counts z some (routed_left z has)
      (λ h e.
      (let is = in_arena heap z h sound (others z has) e in
      let x = hugepage before h in
      ap (λ (y : Hugepage). y.kind) (here before rest kept g heap.counts now h is)
      ∙ elim (cases_Bool (is_region x && not (list_any (spans heap.config.region h) kept))) [
        | inr n ↦ ap (λ b. (cond b (record x { kind = kind.Free }) x).kind) n
        | inl t ↦
            (let parts = and_parts _ _ t in
            let lies = (serves_at rest heap.regions heap.config.region h x kind.Region (is_Region x.kind parts.0) (now.fit h is)).0 in
            absurd (no_run_there heap.config.huge rest z h now.inside has e
            (none_kept before now (λ r known. let is = region r known in (is.from, is.to))
            (λ r known. left_kinds heap run sound live r (region r known)) h (not-true _ parts.1) lies)))
      ]))
      (λ r known a b.
      (let used = range_used rest (256 * r) (256 * heap.config.region) z.first.0 a (omega (arith, some))
      (grind (arith, nat_tests, counts_used, count_some, holds_from)) in
      let place : get_or heap.regions known.0 r ≡ r = known.2 in
      subst (Contains kept) place (Contains-filter (has_used before) heap.regions known.0 r known.1 (ap (has_used before) place ∙ used))))
