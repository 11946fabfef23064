-- What bits say of each hugepage, and tables whose hugepages change.
use Rattle.std.proofs.Common.{◌≡◌, ℕ, ◌+◌, ◌-◌, ◌*◌, ◌/◌, ◌%◌, ◌<◌, ◌≤◌, Bool, true, false, ◌||◌, not, cond, eqb, List, length, get_or, take}
use Rattle.std.proofs.Common.{drop, map, refl, sym, ap, ◌∙◌, inl, inr, arith}
use Rattle.huge_table.proofs.Common.{list_all, range_with_len, cases_Bool, and_from, and_parts, le-leb, lt-ltb, leb-true, ltb-true}
use Rattle.huge_table.proofs.Common.{false_from_ne_true, same_lists, get_or_default, length-replicate, length-take-le, length-drop, get_or-take, get_or-drop}
use Rattle.huge_table.proofs.Common.{length-map-range_with_len, get_or-map-range_with_len, RowKind, used_count, with_places, Hugepage, untouched, spans}
use Rattle.huge_table.proofs.Common.{whole, pages_of, backs, backed_count, holds, run_at, is_free, is_filler, is_region, run_page, region_page, filler_page}
use Rattle.huge_table.proofs.Common.{more_backed, emptied, IsPageOf, at-place, length-each, at-each, each_is, page_of, backs-map, backs-whole, spans_parts}
use Rattle.huge_table.proofs.Common.{spans_from, holds_parts, Table, IsSpan, bit, by_bits, kind_by, of_kind, free_page, is_even, with_backing, region_freed}
use Rattle.huge_table.proofs.Common.{of_filler, hugepage_of, table_of, over_span, is_between, shares, Inside, nat_tests}
use Rattle.range_bits.proofs.Placing.{get_or-with_places}
use Rattle.heap_rules.proofs.Places.{at}

pub at-table : (t : Inside) (h : ℕ) → 0 < h → h ≤ t.huge → at (table_of t).pages h ≡ hugepage_of t h
at-table t h some inside = at-place (table_of t).pages h some ∙ get_or-map-range_with_len (hugepage_of t) 1 t.huge (h - 1) h untouched (omega arith) (omega arith)

-- Bits of which each hugepage is what a change makes of it.
pub changed : (t u : Inside) (first many : ℕ) (f : Hugepage → Hugepage) → u.huge ≡ t.huge →
    ((h : ℕ) → 0 < h → h ≤ t.huge → hugepage_of u h ≡ cond (spans many h first) (f (hugepage_of t h)) (hugepage_of t h)) →
    (table_of u).pages ≡ (over_span first many f (table_of t)).pages
changed t u first many f same all =
    let size = length-map-range_with_len (hugepage_of t) 1 t.huge in
    let size' = length-map-range_with_len (hugepage_of u) 1 u.huge in
    grind (arith, nat_tests, each_is, at-table)

-- a bit of a row of which adjacent places changed
pub span_bit : (row : List Bool) (first many : ℕ) (v : Bool) (h : ℕ) → first + many ≤ length row → bit (with_places row first many v) h ≡ cond (spans many h first) v (bit row h)
span_bit row first many v h fits = get_or-with_places row first many v h false fits

pub put_bit : (row' row : List Bool) (first many : ℕ) (v : Bool) → row' ≡ with_places row first many v → first + many ≤ length row → (h : ℕ) → bit row' h ≡ cond (spans many h first) v (bit row h)
put_bit row' row first many v e fits h = ap (λ (r : List Bool). bit r h) e ∙ span_bit row first many v h fits

-- What new bits say of the hugepages of a span, and of others.
pub take_is : (p g s b : Bool) (x : Hugepage) → by_bits (cond p true g) (cond p false s) b x ≡ cond p run_page (by_bits g s b x)
take_is p g s b x = grind (arith, nat_tests)

pub give_is : (p g s b : Bool) (x : Hugepage) → by_bits (cond p false g) (cond p false s) (cond p true b) x ≡ cond p (free_page true) (by_bits g s b x)
give_is p g s b x = grind (arith, nat_tests)

-- the filler's hugepages are no others
pub gather_is : (p g s b d : Bool) (bs : List Bool) (h : ℕ) → (p ≡ true → is_free (by_bits g s b (of_filler d bs h)) ≡ true) →
    by_bits (cond p true g) (cond p true s) b (of_filler d bs h) ≡ cond p (region_page (by_bits g s b (of_filler d bs h)))
    (by_bits g s b (of_filler d bs h))
gather_is p g s b d bs h e = grind (arith, nat_tests)

pub scatter_is : (p g s b d : Bool) (bs : List Bool) (h : ℕ) → (p ≡ true → is_region (by_bits g s b (of_filler d bs h)) ≡ true) →
    by_bits (cond p false g) (cond p false s) b (of_filler d bs h) ≡ cond p (region_freed (by_bits g s b (of_filler d bs h)))
    (by_bits g s b (of_filler d bs h))
scatter_is p g s b d bs h e = grind (arith, nat_tests)

pub back_is : (p g s b v d : Bool) (bs : List Bool) (h : ℕ) → (p ≡ true → is_even (by_bits g s b (of_filler d bs h)) ≡ true) →
    by_bits g s (cond p v b) (of_filler d bs h) ≡ cond p (with_backing v (by_bits g s b (of_filler d bs h))) (by_bits g s b (of_filler d bs h))
back_is p g s b v d bs h e = grind (arith, nat_tests)

pub adopt_is : (p g s b d : Bool) (x y : Hugepage) → y ≡ cond p (filler_page d) x → by_bits (cond p false g) (cond p true s) b y ≡ cond p (filler_page d) (by_bits g s b x)
adopt_is p g s b d x y e = grind (arith, nat_tests, by_bits)

-- a hugepage of the filler by its own bits
pub filler_bits : (g s b d : Bool) (bs : List Bool) (h : ℕ) → is_filler (by_bits g s b (of_filler d bs h)) ≡ true → (g ≡ false) × (s ≡ true)
filler_bits g s b d bs h e = grind (arith, nat_tests)

pub own_is : (p g s b d : Bool) (bs : List Bool) (h : ℕ) (f : Hugepage → Hugepage) (y : Hugepage) →
    (p ≡ true → is_filler (by_bits g s b (of_filler d bs h)) ≡ true) → y ≡ cond p (f (of_filler d bs h)) (of_filler d bs h) →
    by_bits g s b y ≡ cond p (f (by_bits g s b (of_filler d bs h))) (by_bits g s b (of_filler d bs h))
own_is p g s b d bs h f y e same = grind (arith, nat_tests, filler_bits, by_bits)

pub empty_is : (p g s b v d : Bool) (bs : List Bool) (h : ℕ) → (p ≡ true → is_filler (by_bits g s b (of_filler d bs h)) ≡ true) →
    (p ≡ true → v ≡ list_all (λ x. x) (map (bit bs) (pages_of h))) → by_bits (cond p false g) (cond p false s) (cond p v b) (of_filler d bs h) ≡ cond p
    (emptied (by_bits g s b (of_filler d bs h))) (by_bits g s b (of_filler d bs h))
empty_is true g s b v d bs h e all = let own = filler_bits g s b d bs h (e refl) in rw (own.0, own.1, all refl) refl
empty_is false g s b v d bs h e all = refl

-- what holds of each hugepage of a span holds of its bits
pub spanned : (t : Inside) (now : Table) (first many : ℕ) (test : Hugepage → Bool) → table_of t ≡ now → IsSpan now first many test → (h : ℕ) → 0 < h →
    h ≤ t.huge → spans many h first ≡ true → test (hugepage_of t h) ≡ true
spanned t now first many test view span h some inside e = grind (arith, spans_parts many h first e, at-table t h some inside, span.all h)

-- a row of a hugepage's pages, place by place
pub row_is : (f : ℕ → Bool) (h : ℕ) (ys : List Bool) → length ys ≡ 256 → ((page : ℕ) → IsPageOf h page → f page ≡ get_or ys (page % 256) false) → map f (pages_of h) ≡ ys
row_is f h ys size same =
    let len = length-map-range_with_len f (256 * h) 256 in
    same_lists (map f (pages_of h)) ys (len ∙ sym size) (λ k d l. (get_or-map-range_with_len f (256 * h) 256 k (256 * h + k) d (omega arith) refl
    ∙ same (256 * h + k) (record { from = omega arith; to = omega arith })
    ∙ ap (λ i. get_or ys i false) (omega arith)
    ∙ get_or_default ys k false d (omega arith)))

pub over_pages : (f g : ℕ → Bool) (h : ℕ) → ((page : ℕ) → IsPageOf h page → f page ≡ g page) → map f (pages_of h) ≡ map g (pages_of h)
over_pages f g h same = row_is f h (map g (pages_of h)) (length-map-range_with_len g (256 * h) 256) (λ page own. same page own ∙ sym (backs-map g h page own))

-- the pages of the hugepages of a span
pub span_pages : (bs : List Bool) (first many h : ℕ) (v : Bool) → 256 * first + 256 * many ≤ length bs →
    map (bit (with_places bs (256 * first) (256 * many) v)) (pages_of h) ≡ cond (spans many h first) (whole v) (map (bit bs) (pages_of h))
span_pages bs first many h v fits = elim (cases_Bool (spans many h first)) [
  | inl t ↦
      (let parts = spans_parts many h first t in
      row_is _ h (whole v) (length-replicate 256 v) (λ page own.
      get_or-with_places bs (256 * first) (256 * many) v page false fits
      ∙ ap (λ b. cond b v (bit bs page)) (spans_from (256 * many) page (256 * first) (omega (arith, own.from)) (omega (arith, own.to)))
      ∙ sym (backs-whole v page))
      ∙ sym (ap (λ b. cond b (whole v) (map (bit bs) (pages_of h))) t))
  | inr f ↦
      over_pages _ (bit bs) h (λ page own.
      get_or-with_places bs (256 * first) (256 * many) v page false fits
      ∙ ap (λ b. cond b v (bit bs page))
      (false_from_ne_true _
      (λ e. grind (arith, nat_tests, spans_parts, spans_from, own.from, own.to))))
      ∙ sym (ap (λ b. cond b (whole v) (map (bit bs) (pages_of h))) f)
]

-- A table of new bits of which each hugepage of a span is changed.
pub over : (t u : Inside) (now : Table) (first many : ℕ) (f : Hugepage → Hugepage) → table_of t ≡ now → u.huge ≡ t.huge →
    record (table_of u) { pages = (table_of t).pages } ≡ table_of t →
    ((h : ℕ) → 0 < h → h ≤ t.huge → hugepage_of u h ≡ cond (spans many h first) (f (hugepage_of t h)) (hugepage_of t h)) →
    table_of u ≡ over_span first many f now
over t u now first many f view same rest all = grind (arith, nat_tests, changed)

-- hugepages that the filler gets, and pages of one of its own that are backed
pub filler_put : (bs new : List Bool) (first many h : ℕ) (v d d' : Bool) → d' ≡ cond (spans many h first) v d →
    new ≡ with_places bs (256 * first) (256 * many) true → 256 * first + 256 * many ≤ length bs →
    of_filler d' new h ≡ cond (spans many h first) (filler_page v) (of_filler d bs h)
filler_put bs new first many h v d d' donated e fits =
    let pages = ap (λ (row : List Bool). map (bit row) (pages_of h)) e ∙ span_pages bs first many h true fits in
    ap (λ (b : Bool). of_filler b new h) donated
    ∙ ap (λ (row : List Bool). record (of_filler (cond (spans many h first) v d) bs h) { backed = row }) pages
    ∙ elim (spans many h first) as (λ p. record (of_filler (cond p v d) bs h) { backed = cond p (whole true) (map (bit bs) (pages_of h)) } ≡ cond p
    (filler_page v) (of_filler d bs h)) [ true ↦ refl | false ↦ refl ]

pub filler_backs : (bs new : List Bool) (first n h : ℕ) (d : Bool) → new ≡ with_places bs first n true → first % 256 + n ≤ 256 → first + n ≤ length bs →
    of_filler d new h ≡ cond (spans 1 h (first / 256)) (more_backed (run_at first n) (first / 256) (of_filler d bs h)) (of_filler d bs h)
filler_backs bs new first n h d e ends fits = ap (λ (row : List Bool). of_filler d row h) e ∙ elim (cases_Bool (spans 1 h (first / 256))) [
  | inl t ↦
      (let parts = spans_parts 1 h (first / 256) t in
      let here : h ≡ first / 256 = omega arith in
      ap (λ (row : List Bool). record (of_filler d bs h) { backed = row }) (over_pages _ (λ page. backs (of_filler d bs h) page || holds page (run_at first n)) h (λ page own.
      get_or-with_places bs first n true page false fits
      ∙ or_set (holds page (run_at first n)) (bit bs page)
      ∙ ap (λ v. v || holds page (run_at first n)) (sym (backs-map (bit bs) h page own)))
      ∙ ap (λ k. map (λ page. backs (of_filler d bs h) page || holds page (run_at first n)) (pages_of k)) here)
      ∙ sym (ap (λ b. cond b (more_backed (run_at first n) (first / 256) (of_filler d bs h)) (of_filler d bs h)) t))
  | inr f ↦
      ap (λ (row : List Bool). record (of_filler d bs h) { backed = row }) (over_pages _ (bit bs) h (λ page own.
      get_or-with_places bs first n true page false fits
      ∙ ap (λ s. cond s true (bit bs page))
      (false_from_ne_true (holds page (run_at first n))
      (λ s. grind (arith, nat_tests, holds_parts, spans_from, own.from, own.to)))))
      ∙ sym (ap (λ b. cond b (more_backed (run_at first n) (first / 256) (of_filler d bs h)) (of_filler d bs h)) f)
] where
  or_set : (s v : Bool) → cond s true v ≡ (v || s)
  or_set true true = refl
  or_set true false = refl
  or_set false true = refl
  or_set false false = refl

-- a slice of a row, place by place
pub slice_is : (row : List Bool) (s n : ℕ) → s + n ≤ length row → take n (drop s row) ≡ map (bit row) (range_with_len s n)
slice_is row s n fits =
    grind (arith, nat_tests, length-drop, length-take-le, length-map-range_with_len, same_lists, get_or-take, get_or-drop, get_or_default, get_or-map-range_with_len)

-- one place, by its number and by the next one's
pub one_place : (first page : ℕ) → is_between first (first + 1) page ≡ eqb first page
one_place first page = grind (arith, nat_tests)

pub last_place : (end page : ℕ) → 0 < end → is_between (end - 1) (end - 1 + 1) page ≡ eqb end (page + 1)
last_place end page some = grind (arith, nat_tests)

-- no hugepage is changed
pub over_none : (t : Table) (a : ℕ) (f : Hugepage → Hugepage) → t ≡ over_span a 0 f t
over_none t a f = ap (λ (xs : List Hugepage). record t { pages = xs }) (sym (each_is (λ h x. cond (spans 0 h a) (f x) x) t.pages t.pages refl (λ h _ _. (let x = at t.pages h in
    ap (λ b. cond b (f x) x) (false_from_ne_true (spans 0 h a) (λ e. (let parts = spans_parts 0 h a e in absurd (omega arith))))))))

-- hugepages that a change before them leaves as they were
pub span_after : (s t : Table) (a many : ℕ) (f : Hugepage → Hugepage) (b m : ℕ) (test : Hugepage → Bool) → s ≡ over_span a many f t → a + many ≤ b → IsSpan t b m test → IsSpan s b m test
span_after s t a many f b m test e far span =
    let size = ap (λ (x : Table). length x.pages) e ∙ length-each (λ h x. cond (spans many h a) (f x) x) t.pages in
    record {
      from = span.from;
      to = omega (arith, span.to);
      all = grind (arith, nat_tests, at-each, spans_parts, span.from, span.to, span.all);
    }

pub span_same : (s t : Table) (b m : ℕ) (test : Hugepage → Bool) → s.pages ≡ t.pages → IsSpan t b m test → IsSpan s b m test
span_same s t b m test e span = let size = ap length e in record { from = span.from; to = omega (arith, span.to); all = λ h x y. ap (λ xs. test (at xs h)) e ∙ span.all h x y }

-- what bits say that a hugepage serves, and whether a page of it is backed
pub kind_is : (g s b d : Bool) (bs : List Bool) (h : ℕ) → kind_by g s ≡ (by_bits g s b (of_filler d bs h)).kind
kind_is g s b d bs h = grind (arith, nat_tests)

pub at-now : (t : Inside) (now : Table) (h : ℕ) → table_of t ≡ now → 0 < h → h ≤ t.huge → at now.pages h ≡ hugepage_of t h
at-now t now h view some inside = sym (ap (λ (x : Table). at x.pages h) view) ∙ at-table t h some inside

pub between_yes : (from to k : ℕ) → from ≤ k → k < to → is_between from to k ≡ true
between_yes from to k a b = and_from _ _ (le-leb from k a) (lt-ltb k to b)

pub between_parts : (from to k : ℕ) → is_between from to k ≡ true → (from ≤ k) × (k < to)
between_parts from to k e = let parts = and_parts _ _ e in (leb-true from k parts.0, ltb-true k to parts.1)

-- what a hugepage's own bits say of it
pub run_is : (k : RowKind) → of_kind k true false false ≡ not (shares k)
run_is k = grind (arith, nat_tests)

pub donated_is : (g s b d : Bool) (bs : List Bool) (h : ℕ) → of_kind (by_bits g s b (of_filler d bs h)).kind false false d ≡ (by_bits g s b (of_filler d bs h)).donated
donated_is g s b d bs h = grind (arith, nat_tests)

pub backs_is : (g s b d : Bool) (bs : List Bool) (page : ℕ) → of_kind (by_bits g s b (of_filler d bs (page / 256))).kind true b (bit bs page) ≡ backs (by_bits g s b (of_filler d bs (page / 256))) page
backs_is false false b d bs page = sym (backs-whole b page)
backs_is true false b d bs page = sym (backs-whole true page)
backs_is false true b d bs page = sym (backs-map (bit bs) (page / 256) page (page_of page))
backs_is true true b d bs page = sym (backs-whole b page)

even_count : (b : Bool) → cond b 256 0 ≡ used_count (whole b)
even_count b = grind (arith, nat_tests)

pub backed_is : (g s b d : Bool) (bs : List Bool) (h m : ℕ) → m ≡ used_count (map (bit bs) (pages_of h)) →
    of_kind (by_bits g s b (of_filler d bs h)).kind 256 (cond b 256 0) m ≡ backed_count (by_bits g s b (of_filler d bs h))
backed_is g s b d bs h m e = grind (arith, nat_tests, even_count)
