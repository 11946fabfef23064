-- What the choosers are told of a heap whose hugepages change, place by place.
use Rattle.std.proofs.Common.{◌≡◌, ◌≢◌, ℕ, ◌+◌, ◌-◌, ◌*◌, ◌/◌, ◌<◌, ◌≤◌, Bool, true, false, not, cond, List, [], ◌∷◌, length, get_or, set, map, All}
use Rattle.std.proofs.Common.{Option, None, refl, sym, ap, ◌∙◌, inl, inr, arith}
use Rattle.page_heap.proofs.Common.{cases_Bool, cases_eq, false_from_ne_true, false≢true, length-set, length-map, All-head, All-tail, Run, with_places}
use Rattle.page_heap.proofs.Common.{length-with_places, Heap, Hugepage, hugepage, untouched, reaches, spans, is_free, is_free_backed, is_filler, each}
use Rattle.page_heap.proofs.Common.{at-each, is_region, region_row_of, IsHugepageOf, IsRegion, AreRunsSound, map-at, unreached_unheld, spans_from, remade}
use Rattle.page_heap.proofs.Common.{here, measures_at, with_measures, Cache, is_backed, measures_of, measured, measures, cache_of, regions_of, nat_tests}
use Rattle.huge_cache.specs.Cache.{holds}
use Rattle.page_heap.proofs.Numbered.{numbered, same_numbered, numbered-each, length-each, one_is, one_not, numbered-set, numbered-with_places}
use Rattle.page_heap.proofs.Steps.{IsStep, row-away, measured-away}

-- What the filler and the cache know of hugepage h.
pub length-measures : (heap : Heap) → length (measures heap) ≡ length heap.hugepages
length-measures heap = length-each (measured heap.runs) heap.hugepages

pub measures_there : (heap : Heap) (h : ℕ) → 0 < h → h ≤ length heap.hugepages → measures_at (measures heap) h ≡ measured heap.runs h (hugepage heap h)
measures_there heap h some inside = numbered-each (measured heap.runs) heap.hugepages h untouched None some inside

pub measured_none : (runs : List Run) (h : ℕ) (x : Hugepage) → is_filler x ≡ false → measured runs h x ≡ None
measured_none runs h x e = rw e refl

pub measured_some : (runs : List Run) (h : ℕ) (x : Hugepage) → is_filler x ≡ true → measured runs h x ≡ Option.Some (measures_of runs h x)
measured_some runs h x e = rw e refl

pub not-not : (b : Bool) → not (not b) ≡ b
not-not b = grind (arith, nat_tests)

pub holds_there : (heap : Heap) (h : ℕ) → 0 < h → h ≤ length heap.hugepages → holds (cache_of heap) h ≡ is_free (hugepage heap h)
holds_there heap h some inside = ap not (map-at (λ x. not (is_free x)) heap.hugepages h true some inside) ∙ not-not (is_free (hugepage heap h))

pub backed_there : (heap : Heap) (h : ℕ) → 0 < h → h ≤ length heap.hugepages → is_backed (cache_of heap) h ≡ is_free_backed (hugepage heap h)
backed_there heap h some inside = ap not (map-at (λ x. not (is_free_backed x)) heap.hugepages h true some inside) ∙ not-not (is_free_backed (hugepage heap h))

pub same_cache : (c : Cache) (taken unready : List Bool) → c.taken ≡ taken → c.unready ≡ unready → c ≡ record c { taken = taken; unready = unready }
same_cache c taken unready p q = ap (λ (t : List Bool). record c { taken = t }) p ∙ ap (λ (t : List Bool). record c { taken = taken; unready = t }) q

pub map_same : {X Y : Type 0} (f g : X → Y) (xs : List X) → All (λ x. f x ≡ g x) xs → map f xs ≡ map g xs
map_same f g [] h = refl
map_same f g (x ∷ xs) h = let head : f x ≡ g x = All-head (λ y. f y ≡ g y) x xs h in let rest = map_same f g xs (All-tail (λ y. f y ≡ g y) x xs h) in rw (head, rest) refl

pub map-map : {X Y Z : Type 0} (g : Y → Z) (f : X → Y) (xs : List X) → map g (map f xs) ≡ map (λ x. g (f x)) xs
map-map g f [] = refl
map-map g f (x ∷ xs) = ap (λ ys. g (f x) ∷ ys) (map-map g f xs)

-- whether a hugepage isn't free, and isn't free and backed
abbrev pub is_taken : Hugepage → Bool
is_taken x = not (is_free x)

abbrev pub is_unready : Hugepage → Bool
is_unready x = not (is_free_backed x)

number : (heap : Heap) → AreRunsSound heap → (h : ℕ) → 0 < h → h ≤ length heap.hugepages → IsHugepageOf heap.config.huge h
number heap sound h some l = let len = sound.arena in record { from = some; to = omega arith }

-- The filler, of which one hugepage is measured again, or none.
module _ (heap : Heap) (rest : List Run) (f : ℕ → Hugepage → Hugepage) (sound : AreRunsSound heap) where
  abbrev after : Heap
  after = remade heap rest heap.regions f heap.counts

  measured_after : (h : ℕ) → IsHugepageOf heap.config.huge h → measures_at (measures after) h ≡ measured rest h (f h (hugepage heap h))
  measured_after h is =
      let size = length-each f heap.hugepages in
      measures_there after h is.from (omega (arith, is.to)) ∙ ap (measured rest h) (here heap rest heap.regions f heap.counts sound h is)

  pub measures_set : (k : ℕ) → IsHugepageOf heap.config.huge k →
      ((h : ℕ) → IsHugepageOf heap.config.huge h → h ≢ k → measured heap.runs h (hugepage heap h) ≡ measured rest h (f h (hugepage heap h))) →
      with_measures (measures heap) k (measured rest k (hugepage after k)) ≡ measures after
  measures_set k own others =
      let len = length-measures heap in let its = measured rest k (hugepage after k) in
      let size = length-set (measures heap) (k - 1) its in
      same_numbered None (with_measures (measures heap) k its) (measures after) (size ∙ len ∙ sym (length-measures after ∙ length-each f heap.hugepages))
      (λ h some l.
      (let is = number heap sound h some (omega arith) in
      numbered-set (measures heap) k its h None own.from (omega (arith, own.to)) some
      ∙ elim (cases_eq h k) [
        | inl same ↦
            ap (λ b. cond b its (numbered (measures heap) h None)) (one_is h k same)
            ∙ ap (measured rest k) (here heap rest heap.regions f heap.counts sound k own) ∙ ap (λ i. measured rest i (f i (hugepage heap i))) (sym same)
        | inr other ↦
            ap (λ b. cond b its (numbered (measures heap) h None)) (one_not h k other)
            ∙ measures_there heap h some (omega (arith, is.to)) ∙ others h is other
      ]
      ∙ sym (measured_after h is)))

  pub measures_same : ((h : ℕ) → IsHugepageOf heap.config.huge h → measured heap.runs h (hugepage heap h) ≡ measured rest h (f h (hugepage heap h))) → measures heap ≡ measures after
  measures_same same =
      let len = length-measures heap in
      same_numbered None (measures heap) (measures after) (len ∙ sym (length-measures after ∙ length-each f heap.hugepages))
      (λ h some l.
      (let is = number heap sound h some (omega arith) in
      measures_there heap h some (omega arith) ∙ same h is ∙ sym (measured_after h is)))

-- The flags of hugepages.
module _ (heap : Heap) (f : ℕ → Hugepage → Hugepage) (sound : AreRunsSound heap) where
  abbrev then : List Hugepage
  then = each f heap.hugepages

  pub flags_are : (p : Hugepage → Bool) (flags : List Bool) → length flags ≡ length heap.hugepages →
      ((h : ℕ) → IsHugepageOf heap.config.huge h → numbered flags h true ≡ p (f h (hugepage heap h))) → flags ≡ map p then
  flags_are p flags size same =
      let len = length-map then p in let size' = length-each f heap.hugepages in
      grind (arith, same_numbered true flags (map p then) (size ∙ sym (len ∙ size')), same, number heap sound, at-each f heap.hugepages, map-at p then)

  flag : (p : Hugepage → Bool) (h : ℕ) → IsHugepageOf heap.config.huge h → numbered (map p heap.hugepages) h true ≡ p (hugepage heap h)
  flag p h is = let len = sound.arena in map-at p heap.hugepages h true is.from (omega (arith, is.to))

  pub flags_run : (p : Hugepage → Bool) (r many : ℕ) (t : Bool) → 0 < r → r + many ≤ length heap.hugepages + 1 →
      ((h : ℕ) → IsHugepageOf heap.config.huge h → cond (spans many h r) t (p (hugepage heap h)) ≡ p (f h (hugepage heap h))) →
      with_places (map p heap.hugepages) (r - 1) many t ≡ map p then
  flags_run p r many t some fits same = grind (arith, nat_tests, length-map, flags_are, length-with_places, numbered-with_places, flag)

  pub flags_set : (p : Hugepage → Bool) (r : ℕ) (t : Bool) → 0 < r → r ≤ length heap.hugepages →
      ((h : ℕ) → IsHugepageOf heap.config.huge h → cond (spans 1 h r) t (p (hugepage heap h)) ≡ p (f h (hugepage heap h))) →
      set (map p heap.hugepages) (r - 1) t ≡ map p then
  flags_set p r t some fits same = grind (arith, nat_tests, length-map, flags_are, length-set, numbered-set, flag)

  -- a range is set, and then one
  pub flags_two : (p : Hugepage → Bool) (r many k : ℕ) (t u : Bool) → 0 < r → r + many ≤ length heap.hugepages + 1 → 0 < k → k ≤ length heap.hugepages →
      ((h : ℕ) → IsHugepageOf heap.config.huge h → cond (spans 1 h k) u (cond (spans many h r) t (p (hugepage heap h))) ≡ p (f h (hugepage heap h))) →
      set (with_places (map p heap.hugepages) (r - 1) many t) (k - 1) u ≡ map p then
  flags_two p r many k t u some fits some' fits' same =
      let row = map p heap.hugepages in
      let len = length-map heap.hugepages p in
      let all = with_places row (r - 1) many t in
      let size = length-with_places row (r - 1) many t (omega arith) in
      flags_are p (set all (k - 1) u) (length-set all (k - 1) u ∙ size ∙ len)
      (λ h is. grind (arith, nat_tests, numbered-set, numbered-with_places, flag))

  pub flags_same : (p : Hugepage → Bool) → ((h : ℕ) → IsHugepageOf heap.config.huge h → p (hugepage heap h) ≡ p (f h (hugepage heap h))) → map p heap.hugepages ≡ map p then
  flags_same p same = flags_are p (map p heap.hugepages) (length-map heap.hugepages p) (λ h is. flag p h is ∙ same h is)

  -- the cache, where no hugepage becomes free or was so, or changes its backing
  pub cache_same : ((h : ℕ) → IsHugepageOf heap.config.huge h → (is_free (hugepage heap h) ≡ is_free (f h (hugepage heap h))) ×
      (is_free_backed (hugepage heap h) ≡ is_free_backed (f h (hugepage heap h)))) → cache_of heap ≡ cache_of (record heap { hugepages = then })
  cache_same same = same_cache (cache_of heap) _ _ (flags_same is_taken (λ h is. ap not (same h is).0)) (flags_same is_unready (λ h is. ap not (same h is).1))

-- the regions, where none comes or ends, and their pages stay used or unused
regions_same : (heap : Heap) (rest : List Run) (f : ℕ → Hugepage → Hugepage) →
    All (λ r. region_row_of heap r ≡ region_row_of (remade heap rest heap.regions f heap.counts) r) heap.regions →
    regions_of heap ≡ regions_of (remade heap rest heap.regions f heap.counts)
regions_same heap rest f same = grind (arith, nat_tests, map_same, remade)

-- A run comes or leaves, and changes hugepages that it reaches alone.
module _ (heap : Heap) (rest : List Run) (g : ℕ → Hugepage → Hugepage) (run : Run) (sound : AreRunsSound heap) (step : IsStep heap.runs rest run) where
  abbrev pub stepped : ℕ → Hugepage → Hugepage
  stepped h x = cond (reaches h run) (g h x) x

  abbrev after' : Heap
  after' = remade heap rest heap.regions stepped heap.counts

  pub reached_is : (h : ℕ) (x : Hugepage) → reaches h run ≡ true → stepped h x ≡ g h x
  reached_is h x e = ap (λ b. cond b (g h x) x) e

  pub unreached_is : (h : ℕ) (x : Hugepage) → reaches h run ≡ false → stepped h x ≡ x
  unreached_is h x e = ap (λ b. cond b (g h x) x) e

  -- those but one neither are the filler's nor become so
  pub measures_step : (k : ℕ) → IsHugepageOf heap.config.huge k →
      ((h : ℕ) → IsHugepageOf heap.config.huge h → h ≢ k → reaches h run ≡ true →
      (is_filler (hugepage heap h) ≡ false) × (is_filler (g h (hugepage heap h)) ≡ false)) →
      with_measures (measures heap) k (measured rest k (hugepage after' k)) ≡ measures after'
  measures_step k own others =
      measures_set heap rest stepped sound k own
      (λ h is ne. (let x = hugepage heap h in elim (cases_Bool (reaches h run)) [
        | inl t ↦ (let both = others h is ne t in measured_none heap.runs h x both.0 ∙ sym (ap (measured rest h) (reached_is h x t) ∙ measured_none rest h (g h x) both.1))
        | inr n ↦ sym (measured-away heap.runs rest run step h n x) ∙ ap (measured rest h) (sym (unreached_is h x n))
      ]))

  pub measures_steady : ((h : ℕ) → IsHugepageOf heap.config.huge h → reaches h run ≡ true →
      (is_filler (hugepage heap h) ≡ false) × (is_filler (g h (hugepage heap h)) ≡ false)) → measures heap ≡ measures after'
  measures_steady others =
      measures_same heap rest stepped sound
      (λ h is. (let x = hugepage heap h in elim (cases_Bool (reaches h run)) [
        | inl t ↦ (let both = others h is t in measured_none heap.runs h x both.0 ∙ sym (ap (measured rest h) (reached_is h x t) ∙ measured_none rest h (g h x) both.1))
        | inr n ↦ sym (measured-away heap.runs rest run step h n x) ∙ ap (measured rest h) (sym (unreached_is h x n))
      ]))

  -- a region that it doesn't reach, and all where it reaches none
  pub region_away : (r : ℕ) → ((h : ℕ) → spans heap.config.region h r ≡ true → reaches h run ≡ false) → region_row_of heap r ≡ region_row_of after' r
  region_away r away =
      let width : ℕ = heap.config.region in
      ap (λ (row : List Bool). record (region_row_of heap r) { used = row })
      (sym (row-away heap.runs rest run step (256 * r) (256 * width) (λ page a b. (let h : ℕ = page / 256 in
      unreached_unheld h page run (record { from = omega arith; to = omega arith }) (away h (spans_from width h r (omega arith) (omega arith)))))))

  pub regions_away : All (IsRegion heap) heap.regions → ((h : ℕ) → reaches h run ≡ true → is_region (hugepage heap h) ≡ false) → regions_of heap ≡ regions_of after'
  regions_away regions apart =
      regions_same heap rest stepped
      (λ k d l. region_away (get_or heap.regions k d) (λ h e. false_from_ne_true (reaches h run) (λ t. false≢true (sym (apart h t) ∙ (regions k d l).kinds h e))))

  -- the cache, where none that it reaches is free before or after
  kept_flags : ((h : ℕ) → IsHugepageOf heap.config.huge h → reaches h run ≡ true →
      (is_free (hugepage heap h) ≡ false) × (is_free (g h (hugepage heap h)) ≡ false)) → (h : ℕ) → IsHugepageOf heap.config.huge h →
      (is_free (hugepage heap h) ≡ is_free (stepped h (hugepage heap h))) ×
      (is_free_backed (hugepage heap h) ≡ is_free_backed (stepped h (hugepage heap h)))
  kept_flags busy h is = grind (arith, nat_tests)

  pub cache_step : ((h : ℕ) → IsHugepageOf heap.config.huge h → reaches h run ≡ true →
      (is_free (hugepage heap h) ≡ false) × (is_free (g h (hugepage heap h)) ≡ false)) → cache_of heap ≡ cache_of after'
  cache_step busy = cache_same heap stepped sound (kept_flags busy)
