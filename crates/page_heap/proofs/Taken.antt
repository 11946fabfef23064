-- Runs that take free hugepages: the last one is the filler's, where the run has only a part of it.
use Rattle.std.proofs.Common.{◌≡◌, ◌≢◌, ℕ, ◌+◌, ◌-◌, ◌*◌, ◌^◌, ◌<◌, ◌≤◌, Bool, true, false, not, cond, nat_lt, length, get_or, drop, Some}
use Rattle.std.proofs.Common.{option_map, refl, sym, ap, subst, ◌∙◌, inl, inr, arith}
use Rattle.page_heap.proofs.Common.{cases_Bool, cases_lt, and_left, le-leb, le-ltb, lt-ltb, false_from_ne_true, length-map, length-drop}
use Rattle.page_heap.proofs.Common.{get_or-drop, Run, free_from, Heap, Hugepage, hugepage, reaches, run_at, spans, is_free, is_filler}
use Rattle.page_heap.proofs.Common.{is_region, run_choice, hugepages_for, taken_row, placed, filler_page, run_page, run_or_tail, in_fresh, new_whole}
use Rattle.page_heap.proofs.Common.{IsHugepageOf, IsSound, IsGiven, AreFree, run_choice_free, reaches_from, prefix_long, at, map-place}
use Rattle.page_heap.proofs.Common.{here, taken, IsSpan, Cache, Inside, cache_of, IsRouted, remeasured, nat_tests}
use Rattle.tc_units.specs.declared.rows.RowKind.TheVariants as kind
use Rattle.heap_rules.proofs.Routes.{given_free, given_fresh, reached_free, free_not_region}
use Rattle.huge_cache.specs.Cache.{without_run}
use Rattle.page_heap.proofs.Steps.{came}
use Rattle.page_heap.proofs.Frames.{is_taken, is_unready, flags_run, same_cache, measures_step, regions_away}
use Rattle.page_heap.proofs.Filled.{free_not_filler}
use Rattle.page_heap.proofs.Routed.{routed_with}
use Rattle.page_heap.proofs.Results.{IsHeap, IsMade, fits_used, came_made}

-- adjacent free hugepages are free in the table, and may be taken out of the cache
pub free_span : (old : Inside) (heap : Heap) → IsHeap old heap → (h m : ℕ) → AreFree heap h m → IsSpan old.table h m is_free
free_span old heap is h m are =
    let size = ap length is.shows.means.pages in
    record { from = are.from; to = omega (arith, are.to); all = λ k a b. ap (λ xs. is_free (at xs k)) is.shows.means.pages ∙ are.free k a b }

pub free_there : (old : Inside) (heap : Heap) → IsHeap old heap → (h m : ℕ) → AreFree heap h m → m ≤ free_from old.cache.taken (h - 1)
free_there old heap is h m are =
    let row = taken_row heap in
    let len = length-map heap.hugepages is_taken in
    let left = length-drop (h - 1) row in
    let from = are.from in
    let to = are.to in
    subst (λ (c : Cache). m ≤ free_from c.taken (h - 1)) (sym is.shows.cache)
    (prefix_long not (drop (h - 1) row) m false (omega arith)
    (λ k l.
    (ap not (get_or-drop (h - 1) row k false
    ∙ ap (λ i. get_or row i false) (omega arith)
    ∙ map-place is_taken heap.hugepages (h + k) false (omega arith) (omega arith)
    ∙ ap not (are.free (h + k) (omega arith) (omega arith))))))

-- What the calls ask as a run takes free hugepages, and what it makes.
pub record IsTaking (old : Inside) (heap : Heap) (n h last : ℕ) : Type 0 where
  pub span : IsSpan old.table h (hugepages_for n) is_free
  pub free : hugepages_for n ≤ free_from old.cache.taken (h - 1)
  pub own : IsHugepageOf heap.config.huge last
  pub fits : old.used + n < 2 ^ 64
  pub sound : IsSound (taken heap n h).heap
  pub makes : IsMade (taken heap n h).heap old.config (remeasured old.filler (taken heap n h).heap last) (without_run old.cache h (hugepages_for n)) old.regions (old.used + n)

module _ (old : Inside) (heap : Heap) (is : IsHeap old heap) (n h : ℕ) (some : 0 < n) (choice : run_choice heap (hugepages_for n) ≡ Some h) where
  sound : IsSound heap
  sound = is.well.sound

  abbrev m : ℕ
  m = hugepages_for n

  abbrev run : Run
  run = run_at (256 * h) n

  abbrev becomes : ℕ → Hugepage
  becomes k = cond (nat_lt n 256) (filler_page false) (run_or_tail (256 * h + n) k)

  abbrev f : ℕ → Hugepage → Hugepage
  f k x = cond (reaches k run) (becomes k) x

  abbrev after : Heap
  after = (taken heap n h).heap

  are : AreFree heap h m
  are = run_choice_free heap m h (omega arith) choice

  own : (k : ℕ) → h ≤ k → k < h + m → IsHugepageOf heap.config.huge k
  own k a b = let arena = sound.runs.arena in record { from = omega (arith, are.from); to = omega (arith, are.to) }

  -- What each of them becomes: all but the last are the run's, and that one is the run's or the filler's.
  busy : (k : ℕ) → is_free (becomes k) ≡ false
  busy k = grind (arith, nat_tests)

  whole_is : (k : ℕ) → 256 ≤ n → 256 * (k + 1) ≤ 256 * h + n → becomes k ≡ run_page
  whole_is k large l = rw (le-ltb n 256 large, le-leb (256 * (k + 1)) (256 * h + n) l) refl

  tail_is : (k : ℕ) → 256 * h + n < 256 * (k + 1) → (becomes k).kind ≡ kind.Filler
  tail_is k l = grind (arith, nat_tests)

  reached : (k : ℕ) → reaches k run ≡ true → (h ≤ k) × (k < h + m)
  reached k e = reached_free heap n h m sound some (omega arith) are k e

  was_free : (k : ℕ) → reaches k run ≡ true → is_free (hugepage heap k) ≡ true
  was_free k e = let near = reached k e in are.free k near.0 near.1

  not_last : (last k : ℕ) → last + 1 ≡ h + m → reaches k run ≡ true → k ≢ last → is_filler (becomes k) ≡ false
  not_last last k e t ne = let near = reached k t in ap is_filler (whole_is k (omega (arith, near.0, near.1, ne)) (omega (arith, near.0, near.1, ne)))

  given : IsGiven heap n (taken heap n h)
  given =
      let P : Bool → Type 0 = λ b. IsGiven heap n (placed heap (256 * h) n (λ k _. cond b (filler_page false) (run_or_tail (256 * h + n) k))) in
      elim (cases_lt n 256) [
        | inl small ↦ subst P (sym (lt-ltb n 256 small)) (given_fresh heap n h m sound some (omega arith) are (omega arith))
        | inr large ↦ subst P (sym (le-ltb n 256 large)) (given_free heap n h m sound some (omega arith) are)
      ]

  -- the route of the run
  made : (k : ℕ) → h ≤ k → 256 * k < 256 * h + n → (hugepage after k).kind ≡ (becomes k).kind
  made k a b = grind (arith, here heap after.runs heap.regions f heap.counts sound.runs k, own k a, reaches_from k run)

  own_route : IsRouted after run
  own_route = grind (arith, nat_tests, made, tail_is, whole_is)

  flag : (p : Hugepage → Bool) → ((k : ℕ) → p (becomes k) ≡ true) → (k : ℕ) → IsHugepageOf heap.config.huge k → cond (spans m k h) true (p (hugepage heap k)) ≡ p (f k (hugepage heap k))
  flag p set k _ = grind (arith, nat_tests)

  taken_cache : without_run (cache_of heap) h m ≡ cache_of after
  taken_cache = grind (arith, nat_tests, same_cache, cache_of, flags_run, sound, is_taken, are, flag, busy, is_unready, and_left)

  pub taking : (last : ℕ) → last + 1 ≡ h + m → IsTaking old heap n h last
  taking last e =
      let step = came run heap.runs in
      let own' = own last (omega arith) (omega arith) in
      record {
        span = free_span old heap is h m are;
        free = free_there old heap is h m are;
        own = own';
        fits = fits_used old heap is n (taken heap n h) some given;
        sound = given.sound;
        makes = came_made old heap is n (taken heap n h) some given _ _ _
            (routed_with heap after.runs heap.regions heap.counts run sound is.well.routed f
            (λ r known. known)
            (λ k _. elim (cases_Bool (reaches k run)) [ inl t ↦ inl (was_free k t) | inr f' ↦ inr (ap (λ b. (cond b (becomes k) (hugepage heap k)).kind) f') ])
            own_route)
            (ap (λ rows. remeasured rows after last) is.shows.filler
            ∙ measures_step heap after.runs (λ k _. becomes k) run sound.runs step last own' (λ k _ ne t. (free_not_filler (hugepage heap k) (was_free k t), not_last last k e t ne)))
            (ap (λ (c : Cache). without_run c h m) is.shows.cache ∙ taken_cache)
            (is.shows.regions
            ∙ regions_away heap after.runs (λ k _. becomes k) run sound.runs step sound.regions
            (λ k t. false_from_ne_true (is_region (hugepage heap k)) (free_not_region (hugepage heap k) (was_free k t))));
      }

-- that is what the rules say of a run below a hugepage, and of a larger one
pub as_fresh : (heap : Heap) (n : ℕ) → 0 < n → n < 256 → option_map (in_fresh heap n) (run_choice heap 1) ≡ option_map (taken heap n) (run_choice heap (hugepages_for n))
as_fresh heap n some small = grind (arith, nat_tests)

pub as_whole : (heap : Heap) (n : ℕ) → 256 ≤ n → new_whole heap n ≡ option_map (taken heap n) (run_choice heap (hugepages_for n))
as_whole heap n large = grind (arith, nat_tests)
