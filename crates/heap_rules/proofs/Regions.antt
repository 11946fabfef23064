-- The routes by regions.
use Rattle.std.proofs.Common.{◌≡◌, ℕ, ◌+◌, ◌*◌, ◌/◌, ◌<◌, ◌≤◌, true, false, cond, List, count_by, refl, sym, subst, ◌∙◌, arith, inl, inr}
use Rattle.std.proofs.lemmas.Bool.{false≢true, cases_lt, lt-ltb}
use Rattle.std.proofs.lemmas.List.{length-replicate}
use Rattle.std.proofs.lemmas.List.Elements.{All-weaker, All-contains}
use Rattle.std.proofs.lemmas.List.Folds.{Any-from_list_any}
use Rattle.std.proofs.lemmas.Bool.Decides.{nat_tests}
use Rattle.tc_units.specs.declared.spans.Run.{Run}
use Rattle.tc_units.specs.declared.rows.RowKind.{RowKind}
use Rattle.tc_units.specs.declared.rows.RowKind.TheVariants as kind
use Rattle.heap_rules.specs.Heap.{Heap, Hugepage, hugepage, backs, holds, is_used, is_free, is_region, with_run, run_at, spans}
use Rattle.heap_rules.specs.New.{placed, all_backed, region_page, with_new_region, in_new_region}
use Rattle.heap_rules.specs.Sound.{IsInside, IsHugepageOf, LiesInRegion, Serves, IsFit, IsRegion, AreRunsSound, IsSound}
use Rattle.heap_rules.specs.Laws.{IsGiven}
use Rattle.tc_units.proofs.Counts.{any_is_count}
use Rattle.tc_units.specs.Sorted.{with_item}
use Rattle.tc_units.proofs.SortedFacts.{count-with_item, All-with_item, Contains-new, Contains-old}
use Rattle.heap_rules.proofs.Places.{length-each, at-each, backs-whole}
use Rattle.heap_rules.proofs.Live.{used_with_new}
use Rattle.heap_rules.proofs.Fits.{holds_parts, holds_from, reaches_parts, spans_parts, spans_from, serves_at, is_Free, is_Region}
use Rattle.heap_rules.proofs.Grown.{AreTurned, Turns, used_in, most_one, grown, grown_kind, grown_region}
use Rattle.heap_rules.proofs.Chosen.{AreFree}
use Rattle.heap_rules.proofs.Fillers.{AreUnused}
use Rattle.heap_rules.proofs.Routes.{given_by, free_not_region, inside_free, reached_free, unused_free}

-- a hugepage of a region that is backed whole
pub turned_region : (heap : Heap) (run : Run) (h : ℕ) (x : Hugepage) → is_region x ≡ true → IsFit heap.runs heap.regions heap.config.region h x → Turns heap run h x (all_backed x)
turned_region heap run h x region fit =
    let k = is_Region x.kind region in
    let lies = (serves_at heap.runs heap.regions heap.config.region h x kind.Region k fit).0 in
    record {
      fit = record {
        size = length-replicate 256 true;
        serves = subst (λ j. Serves (with_run run heap.runs) heap.regions heap.config.region h (all_backed x) j) (sym k) (lies, (true, refl));
        donated = fit.donated;
      };
      held = λ p _ _. backs-whole true p;
      kept = λ p _ _. backs-whole true p;
      region = λ e. e;
    }

-- In a region.
pub given_region : (heap : Heap) (n r s : ℕ) → IsSound heap → 0 < n → IsRegion heap r → AreUnused heap.runs (256 * r) (256 * heap.config.region) s n
    → IsGiven heap n (placed heap (256 * r + s) n (λ _ x. all_backed x))
given_region heap n r s sound some is are =
    let run = run_at (256 * r + s) n in
    given_by heap (256 * r + s) n (λ _ x. all_backed x) sound (record { some = some; from = omega (arith, is.from); to = omega (arith, is.to, are.to) })
    (λ p e. let parts = holds_parts p run e in are.unused p parts.0 parts.1) (λ k in_arena e.
    let parts = reaches_parts k run e in
    turned_region heap run k (hugepage heap k) (is.kinds k (spans_from heap.config.region k r (omega arith) (omega (arith, are.to)))) (sound.runs.fit k in_arena))

-- In a new region.
lies_more : (r : ℕ) (regions : List ℕ) (width h : ℕ) → LiesInRegion regions width h → LiesInRegion (with_item (λ k. k) r regions) width h
lies_more r regions width h lies = record { region = lies.region; known = Contains-old (λ (k : ℕ). k) r regions lies.region lies.known; spanned = lies.spanned }

serves_region_more : (runs : List Run) (r : ℕ) (regions : List ℕ) (width h : ℕ) (x : Hugepage) (k : RowKind)
    → Serves runs regions width h x k → Serves runs (with_item (λ k. k) r regions) width h x k
serves_region_more runs r regions width h x kind.Region s = (lies_more r regions width h s.0, s.1)
serves_region_more runs r regions width h x k s = s

module _ (heap : Heap) (r : ℕ) (sound : IsSound heap) (are : AreFree heap r heap.config.region) where
  abbrev pub width : ℕ
  width = heap.config.region

  abbrev pub with_it : Heap
  with_it = with_new_region heap r

  abbrev change : ℕ → Hugepage → Hugepage
  change h x = cond (spans width h r) (region_page x) x

  here : (h : ℕ) → IsHugepageOf heap.config.huge h → hugepage with_it h ≡ change h (hugepage heap h)
  here h is = let len = sound.runs.arena in at-each change heap.hugepages h is.from (omega (arith, is.to))

  by_span : (P : Hugepage → Type 0) (h : ℕ) → IsHugepageOf heap.config.huge h → (spans width h r ≡ true → P (region_page (hugepage heap h)))
      → (spans width h r ≡ false → P (hugepage heap h)) → P (hugepage with_it h)
  by_span P h is inner outer = grind (arith, nat_tests, here)

  free_at_span : (h : ℕ) → spans width h r ≡ true → is_free (hugepage heap h) ≡ true
  free_at_span h e = let parts = spans_parts width h r e in are.free h parts.0 parts.1

  -- no region had a hugepage of the new one
  none_before : (h : ℕ) → spans width h r ≡ true → count_by (spans width h) heap.regions ≡ 0
  none_before h e = elim (cases_lt 0 (count_by (spans width h) heap.regions)) [
    | inr none ↦ omega arith
    | inl some ↦
        (let any = Any-from_list_any (spans width h) heap.regions (any_is_count (spans width h) heap.regions ∙ lt-ltb 0 (count_by (spans width h) heap.regions) some) in
        let region : IsRegion heap any.1 = All-contains (IsRegion heap) heap.regions any.1 sound.regions (any.0, any.2, any.3) in
        absurd (free_not_region (hugepage heap h) (free_at_span h e) (region.kinds h any.4)))
  ]

  fit_inner : (h : ℕ) → IsHugepageOf heap.config.huge h → spans width h r ≡ true → IsFit heap.runs (with_item (λ k. k) r heap.regions) width h (region_page (hugepage heap h))
  fit_inner h is e =
      let fit = sound.runs.fit h is in
      let free = serves_at heap.runs heap.regions width h (hugepage heap h) kind.Free (is_Free (hugepage heap h).kind (free_at_span h e)) fit in
      record {
        size = fit.size;
        serves = (record { region = r; known = Contains-new (λ (k : ℕ). k) r heap.regions; spanned = e }, free.1);
        donated = λ d. absurd (false≢true d);
      }

  fit_outer : (h : ℕ) (x : Hugepage) → IsFit heap.runs heap.regions width h x → IsFit heap.runs (with_item (λ k. k) r heap.regions) width h x
  fit_outer h x fit = record { size = fit.size; serves = serves_region_more heap.runs r heap.regions width h x x.kind fit.serves; donated = fit.donated }

  pub runs_sound : AreRunsSound with_it
  runs_sound = record {
    arena = length-each change heap.hugepages ∙ sound.runs.arena;
    disjoint = sound.runs.disjoint;
    inside = sound.runs.inside;
    backed = λ p e. by_span (λ x. backs x p ≡ true) (p / 256) (used_in heap.config.huge p heap.runs sound.runs.inside e) (λ t. sound.runs.backed p e) (λ f. sound.runs.backed p e);
    fit = λ h is. by_span (λ x. IsFit heap.runs (with_item (λ k. k) r heap.regions) width h x) h is (λ t. fit_inner h is t) (λ f. fit_outer h (hugepage heap h) (sound.runs.fit h is));
    apart = λ h. most_one (spans width h r) (count_by (spans width h) heap.regions) _ (sound.runs.apart h) (none_before h) (count-with_item (λ (k : ℕ). k) (spans width h) r heap.regions);
  }

  pub kinds_inner : (h : ℕ) → IsHugepageOf heap.config.huge h → spans width h r ≡ true → is_region (hugepage with_it h) ≡ true
  kinds_inner h is e = by_span (λ x. is_region x ≡ true) h is (λ t. refl) (λ f. absurd (false≢true (sym f ∙ e)))

  pub kinds_more : (h : ℕ) → IsHugepageOf heap.config.huge h → is_region (hugepage heap h) ≡ true → is_region (hugepage with_it h) ≡ true
  kinds_more h is e = by_span (λ x. is_region x ≡ true) h is (λ t. refl) (λ f. e)

  region_more : (s : ℕ) → IsRegion heap s → IsRegion with_it s
  region_more s is = record {
    from = is.from;
    to = is.to;
    kinds = λ h e. kinds_more h (let parts = spans_parts width h s e in record { from = omega (arith, is.from); to = omega (arith, is.to) }) (is.kinds h e);
    page = is.page;
    own = is.own;
    own_to = is.own_to;
    used = is.used;
  }

  module _ (n : ℕ) (some : 0 < n) (fits : n ≤ 256 * heap.config.region) where
    turned_new : AreTurned with_it (run_at (256 * r) n) (λ h x. all_backed x)
    turned_new h is e =
        let near = reached_free heap n r width sound some fits are h e in
        turned_region with_it (run_at (256 * r) n) h (hugepage with_it h) (kinds_inner h is (spans_from width h r near.0 near.1)) (runs_sound.fit h is)

    abbrev inside : IsInside heap.config.huge (run_at (256 * r) n)
    inside = inside_free heap n r width sound some fits are

    abbrev unused : (p : ℕ) → holds p (run_at (256 * r) n) ≡ true → is_used heap.runs p ≡ false
    unused = unused_free heap n r width sound some fits are

    own_region : IsRegion (in_new_region heap n r).heap r
    own_region =
        let len = sound.runs.arena in
        record {
          from = are.from;
          to = omega (arith, are.to);
          kinds = λ h e.
              (let parts = spans_parts width h r e in
              let is : IsHugepageOf heap.config.huge h = record { from = omega (arith, are.from); to = omega (arith, are.to) } in
              grown_kind with_it (256 * r) n (λ _ x. all_backed x) runs_sound inside unused turned_new h is (kinds_inner h is e));
          page = 256 * r;
          own = omega arith;
          own_to = omega arith;
          used = used_with_new (run_at (256 * r) n) heap.runs (256 * r) (holds_from (256 * r) (run_at (256 * r) n) (omega arith) (omega arith));
        }

    pub given_new_region : IsGiven heap n (in_new_region heap n r)
    given_new_region = record {
      pages = refl;
      inside = inside;
      unused = unused;
      runs = refl;
      config = refl;
      sound = record {
        runs = grown with_it (256 * r) n (λ _ x. all_backed x) runs_sound inside unused turned_new;
        regions = All-with_item (λ (k : ℕ). k) (IsRegion (in_new_region heap n r).heap) r heap.regions own_region
            (All-weaker (IsRegion heap) (IsRegion (in_new_region heap n r).heap)
            (λ s is. grown_region with_it (256 * r) n (λ _ x. all_backed x) runs_sound inside unused turned_new s (region_more s is)) heap.regions sound.regions);
      };
    }
