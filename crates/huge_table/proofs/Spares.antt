-- A hugepage of the filler backs its used pages alone.
use Rattle.std.proofs.Common.{◌≡◌, ℕ, ◌+◌, ◌*◌, ◌≤◌, Bool, true, false, ◌&&◌, cond, List, length, take, drop, map, refl, sym, subst, ap, ◌∙◌, inl, inr, arith}
use Rattle.huge_table.proofs.Common.{cases_Bool, used_count, Heap, Hugepage, hugepage, spans, backs, is_used, is_filler}
use Rattle.huge_table.proofs.Common.{pages_of, IsPageOf, each_where, backs-map, spans_parts, spans_from, Table, IsSpan, AreKept, bit, of_filler}
use Rattle.huge_table.proofs.Common.{hugepage_of, table_of, over_span, Means, used_alone, Inside, nat_tests}
use Rattle.range_bits.specs.Fills.{StaysUsed}
use Rattle.heap_rules.specs.Release.{only_used, spare_pages}
use Rattle.heap_rules.proofs.Places.{at}
use Rattle.heap_rules.proofs.Accounts.{both}
use Rattle.huge_table.proofs.Sizes.{arena}
use Rattle.huge_table.proofs.Pages.{over, spanned, own_is, over_pages, slice_is, filler_bits, at-now, between_yes, between_parts}
use Rattle.huge_table.proofs.Steps.{at-heap}
use Rattle.huge_table.proofs.Stays.{kept_means}

-- what is left of the backing of hugepage h where a test of pages says what stays
abbrev pub only_by : (ℕ → Bool) → ℕ → Hugepage → Hugepage
only_by stays h x = record x { backed = map (λ page. backs x page && stays page) (pages_of h) }

together : (a b c d e : ℕ) → a ≡ c → b ≡ d → c + e ≡ d → a + e ≡ b
together a b c d e p q r = omega arith

fewer : (a b c d e : ℕ) → a ≡ c → b ≡ d → c + e ≡ d → a ≤ b
fewer a b c d e p q r = omega arith

module _ (bs used new : List Bool) (h : ℕ) (stays : StaysUsed bs used new (64 * (4 * h)) (64 * (4 * h + 4))) where
  pub spared_row : map (bit new) (pages_of h) ≡ map (λ page. bit bs page && bit used page) (pages_of h)
  spared_row = over_pages (bit new) (λ page. bit bs page && bit used page) h (grind (arith, nat_tests, between_yes))

  pub filler_spares : (d : Bool) (k : ℕ) → of_filler d new k ≡ cond (spans 1 k h) (only_by (bit used) h (of_filler d bs k)) (of_filler d bs k)
  filler_spares d k = elim (cases_Bool (spans 1 k h)) [
    | inl e ↦
        (let parts = spans_parts 1 k h e in
        let here : h ≡ k = omega arith in
        ap (λ i. record (of_filler d bs k) { backed = map (bit new) (pages_of i) }) (sym here)
        ∙ ap (λ row. record (of_filler d bs k) { backed = row }) (spared_row
        ∙ over_pages (λ page. bit bs page && bit used page) (λ page. backs (of_filler d bs k) page && bit used page) h
        (λ page own. ap (λ b. b && bit used page) (sym (ap (λ i. backs (of_filler d bs i) page) (sym here) ∙ backs-map (bit bs) h page own))))
        ∙ sym (ap (λ b. cond b (only_by (bit used) h (of_filler d bs k)) (of_filler d bs k)) e))
    | inr e ↦
        ap (λ row. record (of_filler d bs k) { backed = row }) (over_pages (bit new) (bit bs) k (λ page own. grind (arith, nat_tests, between_parts, spans_from, stays.each)))
        ∙ sym (ap (λ b. cond b (only_by (bit used) h (of_filler d bs k)) (of_filler d bs k)) e)
  ]

module _ (t : Inside) (now : Table) (kept : AreKept t) (view : table_of t ≡ now) (h : ℕ) (span : IsSpan now h 1 is_filler) (new : List Bool)
    (stays : StaysUsed t.page_backed t.used new (64 * (4 * h)) (64 * (4 * h + 4))) where
  high : h ≤ t.huge
  high = let size = arena t now view in omega (arith, span.to)

  -- the table then
  pub spared_is : table_of (record t { page_backed = new }) ≡ over_span h 1 (only_by (bit t.used) h) now
  spared_is = over t (record t { page_backed = new }) now h 1 (only_by (bit t.used) h) view refl refl (λ k some inside.
      own_is (spans 1 k h) (bit t.grouped k) (bit t.shared k) (bit t.backed k) (bit t.donated k) t.page_backed k (only_by (bit t.used) h) (of_filler (bit t.donated k) new k)
      (spanned t now h 1 is_filler view span k some inside) (filler_spares t.page_backed t.used new h stays (bit t.donated k) k))

  module _ (heap : Heap) (means : Means now heap) where
    filler : is_filler (hugepage heap h) ≡ true
    filler = ap is_filler (sym (at-heap now heap means h)) ∙ span.all h (omega arith) (omega arith)

    noted : (page : ℕ) → IsPageOf h page → bit t.used page ≡ is_used heap.runs page
    noted page own = grind (arith, nat_tests, own.from, own.to)

    pub spared_means : Means (table_of (record t { page_backed = new })) (used_alone heap h)
    spared_means =
        subst (λ x. Means x (used_alone heap h)) (sym (spared_is
        ∙ ap (λ (xs : List Hugepage). record now { pages = xs }) (each_where _ _ now.pages (λ k some inside. (let x = at now.pages k in
        elim (cases_Bool (spans 1 k h)) [
          | inl e ↦
              (let parts = spans_parts 1 k h e in
              ap (λ b. cond b (only_by (bit t.used) h x) x) e
              ∙ ap (λ row. record x { backed = row })
              (over_pages (λ page. backs x page && bit t.used page) (λ page. backs x page && is_used heap.runs page) h
              (λ page own. ap (λ b. backs x page && b) (noted page own)))
              ∙ ap (λ i. only_used heap.runs i x) (omega arith)
              ∙ sym (ap (λ b. cond b (only_used heap.runs k x) x) e))
          | inr e ↦ ap (λ b. cond b (only_by (bit t.used) h x) x) e ∙ sym (ap (λ b. cond b (only_used heap.runs k x) x) e)
        ])))))
        (kept_means now heap (λ k x. cond (spans 1 k h) (only_used heap.runs k x) x) heap.regions heap.counts means
        (λ k some inside. grind (arith, nat_tests)))

    -- the filler's hugepage by its own bits, and how many pages it gives
    own_bits : hugepage heap h ≡ of_filler (bit t.donated h) t.page_backed h
    own_bits =
        let bits = filler_bits (bit t.grouped h) (bit t.shared h) (bit t.backed h) (bit t.donated h) t.page_backed h
        (ap is_filler (sym (at-now t now h view span.from high)) ∙ ap is_filler (at-heap now heap means h) ∙ filler) in
        sym (at-heap now heap means h) ∙ at-now t now h view span.from high ∙ by_own bits.0 bits.1
      where
        by_own : bit t.grouped h ≡ false → bit t.shared h ≡ true → hugepage_of t h ≡ of_filler (bit t.donated h) t.page_backed h
        by_own p q = rw (p, q) refl

    pub spared_count : used_count (take 256 (drop (256 * h) new)) + spare_pages heap h ≡ used_count (take 256 (drop (256 * h) t.page_backed))
    spared_count =
        let x = hugepage heap h in
        let inside : 256 * h + 256 ≤ length t.page_backed = omega (arith, kept.page_backed, high) in
        let inside' : 256 * h + 256 ≤ length new = omega (arith, stays.len) in
        let row : x.backed ≡ map (bit t.page_backed) (pages_of h) = ap (λ (y : Hugepage). y.backed) own_bits in
        let backs_is : (page : ℕ) → IsPageOf h page → backs x page ≡ bit t.page_backed page = λ page own. ap (λ y. backs y page) own_bits ∙ backs-map (bit t.page_backed) h page own in
        let after : used_count (take 256 (drop (256 * h) new)) ≡ used_count (map (λ page. backs x page && is_used heap.runs page) (pages_of h)) =
        ap used_count (slice_is new (256 * h) 256 inside' ∙ spared_row t.page_backed t.used new h stays
        ∙ over_pages _ _ h (λ page own. ap (λ b. b && bit t.used page) (sym (backs_is page own)) ∙ ap (λ b. backs x page && b) (noted page own))) in
        let before : used_count (take 256 (drop (256 * h) t.page_backed)) ≡ used_count x.backed = ap used_count (slice_is t.page_backed (256 * h) 256 inside ∙ sym row) in
        let all = both x.backed (is_used heap.runs) (pages_of h) (backs x) (row ∙ over_pages (bit t.page_backed) (backs x) h (λ page own. sym (backs_is page own))) in
        together _ _ _ _ _ after before all

  pub spared_fewer : used_count (take 256 (drop (256 * h) new)) ≤ used_count (take 256 (drop (256 * h) t.page_backed))
  spared_fewer =
      let inside : 256 * h + 256 ≤ length t.page_backed = omega (arith, kept.page_backed, high) in
      let after = ap used_count (slice_is new (256 * h) 256 (omega (arith, stays.len)) ∙ spared_row t.page_backed t.used new h stays) in
      let all = both (map (bit t.page_backed) (pages_of h)) (bit t.used) (pages_of h) (bit t.page_backed) refl in
      fewer _ _ _ _ _ after (ap used_count (slice_is t.page_backed (256 * h) 256 inside)) all
