-- A run leaves the hugepages that it has whole, and what it has of one more: what that keeps.
use Rattle.std.proofs.Common.{◌≡◌, ℕ, ◌+◌, ◌-◌, ◌*◌, ◌/◌, ◌%◌, ◌<◌, ◌≤◌, ◌⊎◌, Bool, true, false, not, ◌&&◌, cond, List, length, get_or, drop, map}
use Rattle.std.proofs.Common.{Contains, refl, sym, ap, subst, ◌∙◌, inl, inr, arith}
use Rattle.page_heap.proofs.Common.{list_all, cases_Bool, cases_lt, cases_eq, false_from_ne_true, not_from_false, and_left, and_right}
use Rattle.page_heap.proofs.Common.{length-map, length-drop, get_or-drop, Run, RowKind, Heap, Hugepage, hugepage, reaches, spans}
use Rattle.page_heap.proofs.Common.{is_free, is_kind, is_filler, hugepages_for, left_by, given_back}
use Rattle.page_heap.proofs.Common.{IsHugepageOf, IsInside, IsSound, given_back_sound, given_is_left, all_used, reaches_parts, reaches_from, spans_parts}
use Rattle.page_heap.proofs.Common.{spans_from, live_inside, prefix_long, at, map-place, here, IsSpan, is_run, shares, Cache, with_huge, with_backed_run}
use Rattle.page_heap.proofs.Common.{Inside, measures, cache_of, regions_of, IsInOneHugepage, IsInHugepages, remeasured, with_freed, nat_tests}
use Rattle.tc_units.specs.declared.rows.RowKind.TheVariants as kind
use Rattle.range_bits.specs.Ranges.{used_from}
use Rattle.heap_rules.specs.Heap.{without_run}
use Rattle.heap_rules.specs.Free.{left}
use Rattle.huge_cache.specs.Cache.{holds}
use Rattle.page_heap.proofs.Numbered.{one_is, one_not}
use Rattle.page_heap.proofs.Steps.{went}
use Rattle.page_heap.proofs.Frames.{is_taken, is_unready, flags_run, flags_two, same_cache, measures_step, regions_away, holds_there}
use Rattle.page_heap.proofs.Results.{IsHeap, IsMade, run_counted, left_made}

-- Where a run lies that is in one hugepage of the filler, or in hugepages that it has whole and a part of one more: its
-- first hugepage, and its last one; before that its hugepages are its own.
pub record IsLaid (heap : Heap) (run : Run) (start many last : ℕ) : Type 0 where
  pub lies : (run.first.0 % 256 ≡ 0) ⊎ (run.first.0 % 256 + run.pages ≤ 256)
  pub some : 0 < run.pages
  pub from : 0 < start
  pub first : start ≤ last
  pub to : last ≤ heap.config.huge
  pub ends : last + 1 ≡ start + hugepages_for run.pages
  pub most : start + many ≤ last + 1
  pub least : last ≤ start + many
  pub begins : 256 * start ≤ run.first.0
  pub near : run.first.0 < 256 * start + 256
  pub far : 256 * last < run.first.0 + run.pages
  pub past : run.first.0 + run.pages ≤ 256 * last + 256
  pub whole : (h : ℕ) → start ≤ h → h < start + many → (hugepage heap h).kind ≡ kind.Run
  pub tail : last ≡ start + many → (hugepage heap last).kind ≡ kind.Filler

module _ (heap : Heap) (run : Run) (sound : IsSound heap) (live : Contains heap.runs run) where
  inside : IsInside heap.config.huge run
  inside = live_inside heap run sound live

  abbrev last_of : ℕ
  last_of = (run.first.0 + run.pages - 1) / 256

  pub laid : IsInOneHugepage heap run ⊎ IsInHugepages heap run → IsLaid heap run (run.first.0 / 256) (run.pages / 256) last_of
  laid h = grind (arith, nat_tests, inside)

-- What the calls ask as it leaves, and what that makes.
pub record IsLeaving (old : Inside) (heap : Heap) (run : Run) (start many last : ℕ) : Type 0 where
  pub laid : IsLaid heap run start many last
  pub own : IsHugepageOf heap.config.huge last
  pub whole_span : IsSpan old.table start many is_run
  pub tail_span : IsSpan old.table (start + many) (hugepages_for run.pages - many) is_filler
  pub whole_out : last - start ≤ used_from old.cache.taken (start - 1)
  pub last_out : holds old.cache last ≡ false
  pub counted : run.pages ≤ old.used
  pub sound : IsSound (given_back heap run)
  pub makes : IsMade (given_back heap run) old.config (remeasured old.filler (given_back heap run) last)
      (with_freed (with_backed_run old.cache start (last - start)) last (hugepage (given_back heap run) last)) old.regions (old.used - run.pages)

module _ (old : Inside) (heap : Heap) (is : IsHeap old heap) (run : Run) (live : Contains heap.runs run) (start many last : ℕ) (at' : IsLaid heap run start many last) where
  sound : IsSound heap
  sound = is.well.sound

  abbrev rest : List Run
  rest = without_run run heap.runs

  abbrev g : ℕ → Hugepage → Hugepage
  g h x = left_by x.kind rest h x

  abbrev f : ℕ → Hugepage → Hugepage
  f h x = cond (reaches h run) (g h x) x

  own : (h : ℕ) → start ≤ h → h ≤ last → IsHugepageOf heap.config.huge h
  own h a b = record { from = omega (arith, at'.from); to = omega (arith, at'.to) }

  last_own : IsHugepageOf heap.config.huge last
  last_own = own last at'.first (omega arith)

  -- each hugepage that it reaches but the last is a run's, and the last is one too, or the filler's
  reached : (h : ℕ) → reaches h run ≡ true → (start ≤ h) × (h ≤ last)
  reached h e = let parts = reaches_parts h run e in (omega (arith, parts.0, at'.begins), omega (arith, parts.1, at'.past))

  last_kind : ((hugepage heap last).kind ≡ kind.Run) ⊎ ((hugepage heap last).kind ≡ kind.Filler)
  last_kind = elim (cases_lt last (start + many)) [ inl l ↦ inl (at'.whole last at'.first l) | inr e ↦ inr (at'.tail (omega (arith, at'.least))) ]

  before_last : (h : ℕ) → start ≤ h → h < last → (hugepage heap h).kind ≡ kind.Run
  before_last h a b = at'.whole h a (omega (arith, at'.least))

  -- so none is free, or a region's
  other_kind : (h : ℕ) (test : RowKind → Bool) → test kind.Run ≡ false → test kind.Filler ≡ false → start ≤ h → h ≤ last → test (hugepage heap h).kind ≡ false
  other_kind h test p q a b = elim (cases_lt h last) [
    | inl l ↦ ap test (before_last h a l) ∙ p
    | inr e ↦ grind (arith, nat_tests, last_kind)
  ]

  no_region : (h : ℕ) → reaches h run ≡ true → is_kind kind.Region (hugepage heap h).kind ≡ false
  no_region h e = let near = reached h e in other_kind h (is_kind kind.Region) refl refl near.0 near.1

  same : given_back heap run ≡ left heap run
  same = given_is_left heap run sound live (all_used heap run sound live no_region)

  -- the table's hugepages
  in_table : (h : ℕ) (test : Hugepage → Bool) → test (hugepage heap h) ≡ true → test (at old.table.pages h) ≡ true
  in_table h test e = ap (λ xs. test (at xs h)) is.shows.means.pages ∙ e

  arena : length old.table.pages ≡ heap.config.huge
  arena = ap length is.shows.means.pages ∙ sound.runs.arena

  -- The free hugepages: those before the last become free, and the last one where nothing else is in it.
  abbrev left_last : Hugepage
  left_last = f last (hugepage heap last)

  flag : (p : Hugepage → Bool) (u : Bool) → ((h : ℕ) (x : Hugepage) → p (left_by kind.Run rest h x) ≡ false) →
      ((x : Hugepage) → is_free x ≡ false → p x ≡ true) → (b : Bool) → is_free left_last ≡ b → (b ≡ true → u ≡ p left_last) → (h : ℕ) →
      cond (b && spans 1 h last) u (cond (spans (last - start) h start) false (p (hugepage heap h))) ≡ p (f h (hugepage heap h))
  flag p u freed busy b e own_flag h = elim (cases_eq h last) [
    | inl same_h ↦ subst (λ i. cond (b && spans 1 i last) u (cond (spans (last - start) i start) false (p (hugepage heap i))) ≡ p (f i (hugepage heap i))) (sym same_h) (at_last b e own_flag)
    | inr ne ↦
        ap (λ t. cond t u (cond (spans (last - start) h start) false (p (hugepage heap h)))) (and_right b (spans 1 h last) (one_not h last ne))
        ∙ elim (cases_Bool (spans (last - start) h start)) [
          | inl t ↦ grind (arith, spans_parts (last - start) h start t, reaches_from h run, p (hugepage heap h), before_last h, freed h (hugepage heap h))
          | inr n ↦ grind (arith, nat_tests, reached, spans_from)
        ]
  ] where
    at_last : (b : Bool) → is_free left_last ≡ b → (b ≡ true → u ≡ p left_last) → cond (b && spans 1 last last) u (cond (spans (last - start) last start) false (p (hugepage heap last))) ≡ p left_last
    at_last true e own_flag = ap (λ t. cond t u (cond (spans (last - start) last start) false (p (hugepage heap last)))) (one_is last last refl) ∙ own_flag refl
    at_last false e own_flag =
        let out = false_from_ne_true (spans (last - start) last start) (λ t. let parts = spans_parts (last - start) last start t in absurd (omega (arith, parts.1))) in
        ap (λ t. cond t false (p (hugepage heap last))) out ∙ busy (hugepage heap last) (other_kind last (is_kind kind.Free) refl refl at'.first (omega arith)) ∙ sym (busy left_last e)

  freed_cache : with_freed (with_backed_run (cache_of heap) start (last - start)) last (hugepage (left heap run) last) ≡ cache_of (left heap run)
  freed_cache =
      let y : Hugepage = hugepage (left heap run) last in
      let is_y : y ≡ left_last = here heap rest heap.regions f heap.counts sound.runs last last_own in
      let c : Cache = with_backed_run (cache_of heap) start (last - start) in
      let full : Bool = list_all (λ t. t) y.backed in
      let size = sound.runs.arena in
      let to : start + (last - start) ≤ length heap.hugepages + 1 = omega (arith, at'.to, at'.first) in
      let flags : (b : Bool) → is_free left_last ≡ b → (h : ℕ) →
      cond (b && spans 1 h last) false (cond (spans (last - start) h start) false (is_taken (hugepage heap h))) ≡ is_taken (f h (hugepage heap h)) =
      λ b e h. flag is_taken false (λ _ _. refl) (λ x n. ap not n) b e (λ t. sym (ap not (e ∙ t))) h in
      let backs : (b : Bool) → is_free left_last ≡ b → (h : ℕ) →
      cond (b && spans 1 h last) (not full) (cond (spans (last - start) h start) false (is_unready (hugepage heap h))) ≡ is_unready
      (f h (hugepage heap h)) = λ b e h. flag is_unready (not full) (λ _ _. refl) (λ x n. ap not (and_left _ _ n)) b e
      (λ t. ap (λ s. not (s && full)) (sym (e ∙ t)) ∙ ap (λ z. not (is_free left_last && list_all (λ v. v) z)) (ap (λ (z : Hugepage). z.backed) is_y))
      h in
      elim (cases_Bool (is_free y)) [
        | inl free ↦ grind (arith, nat_tests, same_cache, flags_two, is_taken, is_unready, at'.from)
        | inr busy ↦
            (let e : is_free left_last ≡ false = ap is_free (sym is_y) ∙ busy in
            ap (λ b. cond b (with_huge c last full) c) busy
            ∙ same_cache c _ _
            (flags_run heap f sound.runs is_taken start (last - start) false at'.from to (λ h _. flags false e h))
            (flags_run heap f sound.runs is_unready start (last - start) false at'.from to (λ h _. backs false e h)))
      ]

  -- the cache has none of its hugepages before
  out : last - start ≤ used_from old.cache.taken (start - 1)
  out =
      let size = sound.runs.arena in
      let row = map is_taken heap.hugepages in
      let len = length-map heap.hugepages is_taken in
      let behind = length-drop (start - 1) row in
      subst (λ (c : Cache). last - start ≤ used_from c.taken (start - 1)) (sym is.shows.cache)
      (prefix_long (λ used. used) (drop (start - 1) row) (last - start) false (omega (arith, at'.to, at'.from))
      (λ k l.
      (get_or-drop (start - 1) row k false
      ∙ ap (λ i. get_or row i false) (omega (arith, at'.from))
      ∙ map-place is_taken heap.hugepages (start + k) false (omega (arith, at'.from)) (omega (arith, at'.to))
      ∙ not_from_false _ (ap (is_kind kind.Free) (before_last (start + k) (omega arith) (omega arith))))))

  pub leaving : IsLeaving old heap run start many last
  leaving =
      let step = went heap run sound live in
      let after : Heap = given_back heap run in
      let size = ap (λ (c : Cache). length c.taken) is.shows.cache ∙ length-map heap.hugepages is_taken ∙ sound.runs.arena in
      let table = arena in
      record {
        laid = at';
        own = last_own;
        whole_span = record {
          from = at'.from;
          to = omega (arith, at'.most, at'.to);
          all = λ h a b. in_table h is_run (ap (λ (k : RowKind). not (shares k)) (at'.whole h a b));
        };
        tail_span = grind (arith, in_table);
        whole_out = out;
        last_out = grind (arith, holds_there heap last last_own.from, other_kind last (is_kind kind.Free) refl refl at'.first);
        counted = run_counted old heap is run live;
        sound = given_back_sound heap run sound live;
        makes = left_made old heap is run live _ _ _
            (ap (λ rows. remeasured rows after last) is.shows.filler ∙ ap (λ b. remeasured (measures heap) b last) same
            ∙ measures_step heap rest g run sound.runs step last last_own
            (λ h _ ne e. grind (arith, nat_tests, reached, before_last))
            ∙ ap measures (sym same))
            (grind (arith, nat_tests, same, freed_cache))
            (is.shows.regions ∙ regions_away heap rest g run sound.runs step sound.regions no_region ∙ ap regions_of (sym same));
      }
