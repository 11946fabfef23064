-- Hugepages of a region that has ended become free, one after another.
use Rattle.std.proofs.Common.{◌≡◌, ℕ, ◌+◌, ◌-◌, ◌<◌, ◌≤◌, Bool, true, false, not, cond, List, length, set, ap, ◌∙◌, arith}
use Rattle.page_heap.proofs.Common.{list_all, false_from_ne_true, length-set, Heap, hugepage, spans, is_free}
use Rattle.page_heap.proofs.Common.{spans_parts, spans_from, Cache, with_huge, AreFreed, with_freed, nat_tests}
use Rattle.huge_cache.specs.Cache.{holds}
use Rattle.page_heap.proofs.Numbered.{numbered, numbered-set, one_is, one_not}

more_spans : (many h first : ℕ) → h < first + many → spans (many + 1) h first ≡ spans many h first
more_spans many h first l = grind (arith, nat_tests)

past_spans : (many h first : ℕ) → first + many ≤ h → spans many h first ≡ false
past_spans many h first l = false_from_ne_true _ (λ t. let parts = spans_parts many h first t in omega arith)

-- a row where one more place of a range is what it is to be
more_at : (row now : List Bool) (flag : ℕ → Bool) (first many : ℕ) → 0 < first → first + many ≤ length now →
    ((h : ℕ) → 0 < h → h ≤ length row → numbered now h true ≡ cond (spans many h first) (flag h) (numbered row h true)) → (h : ℕ) → 0 < h →
    h ≤ length row → numbered (set now (first + many - 1) (flag (first + many))) h true ≡ cond (spans (many + 1) h first) (flag h) (numbered row h true)
more_at row now flag first many from inside was h some l = grind (arith, nat_tests, numbered-set, numbered, one_is, spans_from, one_not, more_spans, past_spans)

pub freed_none : (cache : Cache) (heap : Heap) (first : ℕ) → AreFreed cache cache heap first 0
freed_none cache heap first = grind (arith, nat_tests, cache.taken, cache.unready)

pub freed_more : (old now new : Cache) (heap : Heap) (first many : ℕ) → AreFreed old now heap first many →
    new ≡ with_freed now (first + many) (hugepage heap (first + many)) → 0 < first → first + many ≤ length old.taken →
    length old.unready ≡ length old.taken → is_free (hugepage heap (first + many)) ≡ true → AreFreed old new heap first (many + 1)
freed_more old now new heap first many is e from inside same free =
    let k : ℕ = first + many in
    let flag : ℕ → Bool = λ h. not (list_all (λ v. v) (hugepage heap h).backed) in
    let made : new ≡ with_huge now k (list_all (λ v. v) (hugepage heap k).backed) = e ∙ ap (λ b. cond b (with_huge now k (list_all (λ v. v) (hugepage heap k).backed)) now) free in
    let taken : new.taken ≡ set now.taken (k - 1) false = ap (λ (c : Cache). c.taken) made in
    let unready : new.unready ≡ set now.unready (k - 1) (flag k) = ap (λ (c : Cache). c.unready) made in
    record {
      rest = grind (arith, nat_tests, now.taken, now.unready, is.rest, new.taken);
      size = ap length taken ∙ length-set now.taken (k - 1) false ∙ is.size;
      unready_size = ap length unready ∙ length-set now.unready (k - 1) (flag k) ∙ is.unready_size;
      taken = λ h some l. ap (λ row. numbered row h true) taken ∙ more_at old.taken now.taken (λ _. false) first many from (omega (arith, is.size)) is.taken h some l;
      unready = λ h some l. ap (λ row. numbered row h true) unready ∙ more_at old.unready now.unready flag first many from (omega (arith, is.unready_size)) is.unready h some l;
    }

-- those behind are free or not as before
pub freed_holds : (old now : Cache) (heap : Heap) (first many h : ℕ) → AreFreed old now heap first many → 0 < h → h ≤ length old.taken → first + many ≤ h → holds now h ≡ holds old h
freed_holds old now heap first many h is some inside behind = ap not (is.taken h some inside ∙ ap (λ b. cond b false (numbered old.taken h true)) (past_spans many h first behind))
