-- Adjacent hugepages that are free or of a region lose their backing: what that keeps.
use Rattle.std.proofs.Common.{◌≡◌, ℕ, ◌+◌, ◌-◌, ◌*◌, ◌<◌, ◌≤◌, true, false, length, cond, Option, Some, None, IfSome, IfNone, sym, ap, subst, ◌∙◌, inl, inr, arith}
use Rattle.std.specs.Int.{div_ceil}
use Rattle.std.proofs.lemmas.Bool.{or_left, or_right}
use Rattle.page_heap.proofs.Common.{cases_Bool, cases_lt, and_parts, length-map, get_or_past, Heap, Hugepage, hugepage}
use Rattle.page_heap.proofs.Common.{spans, spans_parts, is_free, is_free_backed, is_filler, is_region, unready_row, unbacked, IsSound, unbacked_span}
use Rattle.page_heap.proofs.Common.{IsSpan, is_even, Cache, is_backed, without_backing, IsLastStretch, Inside, measured, measures, cache_of, AreLast, Stretch, at, nat_tests}
use Rattle.page_heap.proofs.Frames.{is_taken, is_unready, measures_same, measured_none, flags_run, flags_same, same_cache, cache_same, backed_there}
use Rattle.page_heap.proofs.Filled.{free_not_filler}
use Rattle.page_heap.proofs.InRegion.{region_no_filler, region_busy}
use Rattle.page_heap.proofs.Results.{IsHeap, IsMade, same_made}

pub if_some : {X : Type 0} (o : Option X) (P Q : X → Type 0) → ((x : X) → P x → Q x) → IfSome o P → IfSome o Q
if_some o P Q f h = grind (arith, nat_tests)

pub if_none : {X : Type 0} (o : Option X) (P Q : Type 0) → (P → Q) → IfNone o P → IfNone o Q
if_none o P Q f h = grind (arith, nat_tests)

-- What the cache says of the last free and backed hugepage.
backed_all : (heap : Heap) (h : ℕ) → is_backed (cache_of heap) h ≡ is_free_backed (hugepage heap h)
backed_all heap h = grind (arith, nat_tests, cases_lt, backed_there, length-map, is_unready, get_or_past, unready_row, is_free_backed)

last_is : (t : Inside) (heap : Heap) → IsHeap t heap → (most : ℕ) (stretch : Stretch) → IsLastStretch t.cache most stretch →
    AreLast heap (λ h. is_free_backed (hugepage heap h)) stretch
last_is t heap whole most stretch given =
    let is = subst (λ c. IsLastStretch c most stretch) whole.shows.cache given in
    let len = length-map heap.hugepages is_unready in
    let arena = whole.well.sound.runs.arena in
    record {
      from = is.from;
      some = is.some;
      to = omega (arith, is.to);
      pass = λ h low high. sym (backed_all heap h) ∙ is.backed h low high;
      behind = λ h past. sym (backed_all heap h) ∙ is.behind h past;
    }

pub found_last : (t : Inside) (heap : Heap) → IsHeap t heap → (n most : ℕ) → most ≡ div_ceil n 256 → (o : Option Stretch) → IfSome o (IsLastStretch t.cache most) →
    IfSome o (AreLast heap (λ h. is_free_backed (hugepage heap h))) × IfSome o (λ stretch. 256 * (stretch.many - 1) < n)
found_last t heap whole n most e None is = (tt, tt)
found_last t heap whole n most e (Some stretch) is = (last_is t heap whole most stretch is, omega (arith, is.few, is.some))

pub none_is : (t : Inside) (heap : Heap) → IsHeap t heap → ((h : ℕ) → is_backed t.cache h ≡ false) → (h : ℕ) → is_free_backed (hugepage heap h) ≡ false
none_is t heap is none h = sym (backed_all heap h) ∙ ap (λ c. is_backed c h) (sym is.shows.cache) ∙ none h

pub free_even : (x : Hugepage) → is_free_backed x ≡ true → is_even x ≡ true
free_even x e = or_left (is_free x) (is_region x) (and_parts _ _ e).0

pub region_even : (x : Hugepage) → is_region x ≡ true → is_even x ≡ true
region_even x e = or_right (is_free x) (is_region x) e

-- what holds of one holds of it alone
pub alone : (P : ℕ → Type 0) (k : ℕ) → P k → (h : ℕ) → k ≤ h → h < k + 1 → P h
alone P k p h low high = let same : k ≡ h = omega arith in subst P same p

module _ (old : Inside) (heap : Heap) (is : IsHeap old heap) (first many : ℕ) (from : 0 < first) (to : first + many ≤ heap.config.huge + 1) where
  sound : IsSound heap
  sound = is.well.sound

  abbrev Each : (ℕ → Type 0) → Type 0
  Each P = (h : ℕ) → first ≤ h → h < first + many → P h

  abbrev after : Heap
  after = unbacked_span heap first many

  abbrev f : ℕ → Hugepage → Hugepage
  f k x = cond (spans many k first) (unbacked x) x

  pub unback_span : Each (λ h. is_even (hugepage heap h) ≡ true) → IsSpan old.table first many is_even
  unback_span even =
      let size = ap length is.shows.means.pages ∙ sound.runs.arena in
      record { from = from; to = omega arith; all = λ k a b. ap (λ xs. is_even (at xs k)) is.shows.means.pages ∙ even k a b }

  -- the filler, where they aren't the filler's
  still_measured : Each (λ h. is_filler (hugepage heap h) ≡ false) → measures heap ≡ measures after
  still_measured other = measures_same heap heap.runs f sound.runs (λ k _. (let x = hugepage heap k in
      elim (cases_Bool (spans many k first)) [
        | inl t ↦
            (let parts = spans_parts many k first t in
            let none : is_filler x ≡ false = other k parts.0 parts.1 in
            measured_none heap.runs k x none ∙ sym (ap (λ b. measured heap.runs k (cond b (unbacked x) x)) t ∙ measured_none heap.runs k (unbacked x) none))
        | inr n ↦ sym (ap (λ b. measured heap.runs k (cond b (unbacked x) x)) n)
      ]))

  made : IsSound after → (cache : Cache) → Each (λ h. is_filler (hugepage heap h) ≡ false) → cache ≡ cache_of after → IsMade after old.config old.filler cache old.regions old.used
  made sound' cache other free = grind (arith, nat_tests, same_made, still_measured)

  -- free ones
  pub free_made : Each (λ h. is_free_backed (hugepage heap h) ≡ true) → IsSound after → IsMade after old.config old.filler (without_backing old.cache first many) old.regions old.used
  free_made pass sound' =
      let arena = sound.runs.arena in
      made sound' (without_backing old.cache first many) (λ h low high. free_not_filler (hugepage heap h) (and_parts _ _ (pass h low high)).0)
      (ap (λ c. without_backing c first many) is.shows.cache
      ∙ same_cache (without_backing (cache_of heap) first many) _ _
      (grind (arith, nat_tests, flags_same, is_taken))
      (flags_run heap f sound.runs is_unready first many true from (omega arith) (λ h _. grind (arith, nat_tests, is_unready))))

  -- those of regions
  pub idle_made : Each (λ h. is_region (hugepage heap h) ≡ true) → IsSound after → IsMade after old.config old.filler old.cache old.regions old.used
  idle_made region sound' = made sound' old.cache (λ h low high. region_no_filler (hugepage heap h) (region h low high))
      (is.shows.cache ∙ cache_same heap f sound.runs (λ h _. (let x = hugepage heap h in elim (cases_Bool (spans many h first)) [
        | inl t ↦ (let parts = spans_parts many h first t in let e = region h parts.0 parts.1 in grind (arith, nat_tests, region_busy))
        | inr n ↦ grind (arith, nat_tests)
      ])))

-- what the cache asks
pub free_backed : (old : Inside) (heap : Heap) → IsHeap old heap → (h : ℕ) → is_free_backed (hugepage heap h) ≡ true → is_backed old.cache h ≡ true
free_backed old heap is h passes = ap (λ c. is_backed c h) is.shows.cache ∙ backed_all heap h ∙ passes
