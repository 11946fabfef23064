-- Hugepages change while no run comes or leaves: regions open and end, and backing is lost.
use Rattle.std.proofs.Common.{◌≡◌, ℕ, zero, suc, ◌/◌, ◌<◌, ◌≤◌, Bool, true, ◌&&◌, cond, List, length, refl, sym, ap, subst, ◌∙◌, inl, inr, arith}
use Rattle.huge_table.proofs.Common.{cases_lt, get_or_past, ended, Heap, Hugepage, hugepage, untouched, each, spans, is_used, is_free, is_region}
use Rattle.tc_units.specs.Sorted.{with_item}
use Rattle.huge_table.proofs.Common.{region_page, with_new_region, used_regions, without_unused_regions, AreRunsSound, at-each, length-each}
use Rattle.huge_table.proofs.Common.{each_where, spans_parts, Table, IsSpan, region_freed, over_span, Means, IsEnding, is_shared, unbacked_span, nat_tests}
use Rattle.heap_rules.specs.Settle.{unbacked}
use Rattle.heap_rules.proofs.Places.{at}
use Rattle.huge_table.proofs.Shared.{free_shared, region_shared}
use Rattle.huge_table.proofs.Steps.{at-heap}

-- Where what is shared stays so, all notes stay.
pub kept_means : (t : Table) (heap : Heap) (f : ℕ → Hugepage → Hugepage) (regions counts : List ℕ) → Means t heap →
    ((h : ℕ) → 0 < h → h ≤ length heap.hugepages → is_shared (f h (hugepage heap h)) ≡ is_shared (hugepage heap h)) →
    Means (record t { pages = each f t.pages }) (record heap { regions = regions; hugepages = each f heap.hugepages; counts = counts })
kept_means t heap f regions counts means stays = record {
  pages = ap (each f) means.pages;
  used = λ page. means.used page ∙ ap (λ b. b && is_used heap.runs page) (sym (same (page / 256)));
  begins = means.begins;
  ends = means.ends;
} where
  same : (h : ℕ) → is_shared (at (each f heap.hugepages) h) ≡ is_shared (hugepage heap h)
  same zero = refl
  same (suc k) = elim (cases_lt k (length heap.hugepages)) [
    | inl inside ↦ ap is_shared (at-each f heap.hugepages (suc k) (omega arith) (omega arith)) ∙ stays (suc k) (omega arith) (omega arith)
    | inr past ↦ ap is_shared (get_or_past (each f heap.hugepages) k untouched (let size = length-each f heap.hugepages in omega arith) ∙ sym (get_or_past heap.hugepages k untouched past))
  ]

-- the same over adjacent hugepages that pass a test
span_means : (t : Table) (heap : Heap) (first many : ℕ) (g : Hugepage → Hugepage) (test : Hugepage → Bool) (regions : List ℕ) → Means t heap →
    IsSpan t first many test → ((x : Hugepage) → test x ≡ true → is_shared (g x) ≡ is_shared x) →
    Means (over_span first many g t) (record heap { regions = regions; hugepages = each (λ h x. cond (spans many h first) (g x) x) heap.hugepages })
span_means t heap first many g test regions means span same =
    kept_means t heap (λ h x. cond (spans many h first) (g x) x) regions heap.counts means (λ h some inside. grind (arith, nat_tests, spans_parts, at-heap, span.all))

pub opened_means : (t : Table) (heap : Heap) (first width : ℕ) → IsSpan t first width is_free → heap.config.region ≡ width → Means t heap →
    Means (over_span first width region_page t) (with_new_region heap first)
opened_means t heap first width span e means =
    subst (λ w. Means (over_span first width region_page t)
    (record heap { regions = with_item (λ k. k) first heap.regions; hugepages = each (λ h x. cond (spans w h first) (region_page x) x) heap.hugepages }))
    (sym e)
    (span_means t heap first width region_page is_free (with_item (λ k. k) first heap.regions) means span (λ x free. sym (free_shared x free)))

pub unbacked_means : (t : Table) (heap : Heap) (first many : ℕ) (test : Hugepage → Bool) → IsSpan t first many test → Means t heap →
    Means (over_span first many unbacked t) (unbacked_span heap first many)
unbacked_means t heap first many test span means = span_means t heap first many unbacked test heap.regions means span (λ x _. refl)

module _ (heap : Heap) (first : ℕ) (sound : AreRunsSound heap) (ending : IsEnding heap first) where
  abbrev width : ℕ
  width = heap.config.region

  pub ended_means : (t : Table) → IsSpan t first width is_region → Means t heap → Means (over_span first width region_freed t) (without_unused_regions heap)
  ended_means t span means =
      subst (λ xs. Means (over_span first width region_freed t) (record heap { regions = used_regions heap; hugepages = xs }))
      (each_where _ _ heap.hugepages
      (λ h some inside. grind (arith, nat_tests, ended, spans_parts, at-heap, ending.known, ending.unused, ending.alone, span.all)))
      (span_means t heap first width region_freed is_region (used_regions heap) means span (λ x region. sym (region_shared x region)))
