-- A run comes or leaves: what is noted changes as the heap's runs do.
use Rattle.std.proofs.Common.{◌≡◌, ℕ, ◌+◌, ◌*◌, ◌/◌, ◌<◌, ◌≤◌, Bool, true, false, ◌&&◌, cond, nat_le, nat_lt, List, length, take, drop}
use Rattle.std.proofs.Common.{count_by, get_or, Contains, sym, ap, subst, ◌∙◌, add-zero, arith}
use Rattle.huge_table.proofs.Common.{list_any, cases_lt, eqb-true, get_or_past, Run, any_is_count, count_le, Heap, Hugepage, hugepage, each, holds}
use Rattle.huge_table.proofs.Common.{reaches, is_used, used_row, run_at, with_run, without_run, placed, IsInside, IsSound, at-each, length-each, each_where}
use Rattle.huge_table.proofs.Common.{page_of, holds_from, unreached_unheld, spans_parts, spans_reaches, count_rest, Table, AreKept, IsSpan, IsNoted, bit}
use Rattle.huge_table.proofs.Common.{is_between, over_span, table_of, Inside, Means, is_shared, begins_on, ends_on, nat_tests}
use Rattle.heap_rules.proofs.Places.{at}
use Rattle.heap_rules.proofs.Live.{count-with}
use Rattle.huge_table.proofs.Sizes.{arena}
use Rattle.huge_table.proofs.Pages.{slice_is, over_pages}

-- Runs with one more, or with one less.
pub record AreChanged (runs rest : List Run) (run : Run) (came : Bool) : Type 0 where
  pub used : (page : ℕ) → is_used rest page ≡ cond (holds page run) came (is_used runs page)
  pub begins : (page : ℕ) → list_any (begins_on page) rest ≡ cond (begins_on page run) came (list_any (begins_on page) runs)
  pub ends : (page : ℕ) → list_any (ends_on page) rest ≡ cond (ends_on page run) came (list_any (ends_on page) runs)

any_with : (run : Run) (runs : List Run) (p : Run → Bool) → list_any p (with_run run runs) ≡ cond (p run) true (list_any p runs)
any_with run runs p = grind (arith, nat_tests, any_is_count, count-with)

pub with_changed : (run : Run) (runs : List Run) → AreChanged runs (with_run run runs) run true
with_changed run runs = record { used = λ page. any_with run runs (holds page); begins = λ page. any_with run runs (begins_on page); ends = λ page. any_with run runs (ends_on page) }

module _ (heap : Heap) (run : Run) (sound : IsSound heap) (live : Contains heap.runs run) where
  abbrev rest : List Run
  rest = without_run run heap.runs

  any_without : (p : Run → Bool) → count_by p heap.runs ≤ 1 → list_any p rest ≡ cond (p run) false (list_any p heap.runs)
  any_without p most = grind (arith, nat_tests, count_rest, any_is_count)

  held : (p : Run → Bool) (page : ℕ) → ((r : Run) → IsInside heap.config.huge r → p r ≡ true → holds page r ≡ true) → count_by p heap.runs ≤ 1
  held p page is =
      let le = count_le p (holds page) heap.runs (λ k d l e. is (get_or heap.runs k d) (sound.runs.inside k d l) e) in
      omega arith

  pub without_changed : AreChanged heap.runs rest run false
  without_changed = record {
    used = λ page. any_without (holds page) (sound.runs.disjoint page);
    begins = λ page. any_without (begins_on page) (held (begins_on page) page (λ r inside e. (let at = eqb-true r.first.0 page e in holds_from page r (omega arith) (omega (arith, inside.some)))));
    ends = λ page. any_without (ends_on page)
        (held (ends_on page) page
        (λ r inside e. (let at = eqb-true (r.first.0 + r.pages) (page + 1) e in holds_from page r (omega (arith, inside.some)) (omega arith))));
  }

-- what is shared stays noted as it was, with the run or without it
pub shared_step : (x y : Hugepage) (w v : Bool) (u u' : Bool) → is_shared x ≡ true → is_shared y ≡ true → u' ≡ cond w v u → cond w v (is_shared x && u) ≡ (is_shared y && u')
shared_step x y w v u u' p q e = ap (λ b. cond w v (b && u)) p ∙ sym (ap (λ b. b && u') q ∙ e)

-- the pages of a run that has none in whole hugepages
pub all_of : (first n page : ℕ) → is_between (first + 0) (first + n) page ≡ holds page (run_at first n)
all_of first n page = ap (λ k. nat_le k page && nat_lt page (first + n)) (add-zero first)

-- a change of each hugepage, at one that it leaves as it is, be it of the arena or not
outside : (h : ℕ) (f : ℕ → Hugepage → Hugepage) (xs : List Hugepage) → f h (at xs h) ≡ at xs h → at (each f xs) h ≡ at xs h
outside h f xs e = grind (arith, nat_tests, cases_lt, at-each, get_or_past, length-each)

module _ (heap : Heap) (first n skipped : ℕ) (came : Bool) (rest : List Run) (f : ℕ → Hugepage → Hugepage) where
  abbrev run : Run
  run = run_at first n

  abbrev pub step : ℕ → Hugepage → Hugepage
  step h x = cond (reaches h run) (f h x) x

  abbrev pub after : Heap
  after = record heap { runs = rest; hugepages = each step heap.hugepages }

  reached : (h : ℕ) → 0 < h → h ≤ length heap.hugepages → reaches h run ≡ true → hugepage after h ≡ f h (hugepage heap h)
  reached h some inside e = at-each step heap.hugepages h some inside ∙ ap (λ b. cond b (f h (hugepage heap h)) (hugepage heap h)) e

  unreached : (h : ℕ) → reaches h run ≡ false → hugepage after h ≡ hugepage heap h
  unreached h e = outside h step heap.hugepages (ap (λ b. cond b (f h (hugepage heap h)) (hugepage heap h)) e)

  -- The one frame: what a change owes is what the table notes of the hugepages that the run reaches.
  pub stepped : (t u : Table) → Means t heap → AreChanged heap.runs rest run came → u.pages ≡ each step t.pages → IsNoted t u first n skipped came →
      ((h : ℕ) → reaches h run ≡ true → (0 < h) × (h ≤ length t.pages)) →
      ((h page : ℕ) → reaches h run ≡ true → page / 256 ≡ h → cond (is_between (first + skipped) (first + n) page) came
      (is_shared (hugepage heap h) && is_used heap.runs page) ≡ (is_shared (f h (hugepage heap h)) && is_used rest page)) → Means u after
  stepped t u means changed pages noted inside here = grind (arith, nat_tests, reached, unreached_unheld, page_of, unreached, holds_from)

-- Runs all of whose hugepages are shared, before and after.
pub shared_means : (heap : Heap) (first n : ℕ) (came : Bool) (rest : List Run) (f : ℕ → Hugepage → Hugepage) (t u : Table) → Means t heap →
    AreChanged heap.runs rest (run_at first n) came → u.pages ≡ each (step heap first n 0 came rest f) t.pages → IsNoted t u first n 0 came →
    ((h : ℕ) → reaches h (run_at first n) ≡ true →
    ((0 < h) × (h ≤ length t.pages)) × ((is_shared (hugepage heap h) ≡ true) × (is_shared (f h (hugepage heap h)) ≡ true))) →
    Means u (after heap first n 0 came rest f)
shared_means heap first n came rest f t u means changed pages noted all = grind (arith, nat_tests, stepped, shared_step, all_of)

-- the hugepages of a table, and of a heap that it means
pub at-heap : (t : Table) (heap : Heap) → Means t heap → (h : ℕ) → at t.pages h ≡ hugepage heap h
at-heap t heap means h = ap (λ xs. at xs h) means.pages

-- notes beside a change of hugepages
pub noted_after : (t s u : Table) (a many : ℕ) (g : Hugepage → Hugepage) (first n skipped : ℕ) (v : Bool) → s ≡ over_span a many g t → IsNoted s u first n skipped v → IsNoted t u first n skipped v
noted_after t s u a many g first n skipped v e noted = let is = subst (λ x. IsNoted x u first n skipped v) e noted in record { used = is.used; begins = is.begins; ends = is.ends }

pub noted_before : (t s u : Table) (a many : ℕ) (g : Hugepage → Hugepage) (first n skipped : ℕ) (v : Bool) → u ≡ over_span a many g s → IsNoted t s first n skipped v → IsNoted t u first n skipped v
noted_before t s u a many g first n skipped v e is = subst (λ x. IsNoted t x first n skipped v) (sym e) (record { used = is.used; begins = is.begins; ends = is.ends })

-- One run in adjacent hugepages that all pass a test, and what it makes of them.
pub record IsOver (heap : Heap) (first n a many : ℕ) (test : Hugepage → Bool) : Type 0 where
  pub from : 256 * a ≤ first
  pub near : first < 256 * (a + 1)
  pub far : 256 * (a + many) < first + n + 256
  pub to : first + n ≤ 256 * (a + many)
  pub some : 0 < n
  pub passes : (h : ℕ) → reaches h (run_at first n) ≡ true → test (hugepage heap h) ≡ true

pub is_over : (t : Table) (heap : Heap) (first n a many : ℕ) (test : Hugepage → Bool) → Means t heap → IsSpan t a many test → 256 * a ≤ first →
    first < 256 * (a + 1) → 256 * (a + many) < first + n + 256 → first + n ≤ 256 * (a + many) → 0 < n →
    IsOver heap first n a many test × ((h : ℕ) → reaches h (run_at first n) ≡ true → (0 < h) × (h ≤ length t.pages))
is_over t heap first n a many test means span p q r s some =
    let near : (h : ℕ) → reaches h (run_at first n) ≡ true → (a ≤ h) × (h < a + many) = λ h e. spans_parts many h a (spans_reaches first n a many h p q r s some ∙ e) in (
      record {
        from = p;
        near = q;
        far = r;
        to = s;
        some = some;
        passes = λ h e. (let is = near h e in ap test (sym (at-heap t heap means h)) ∙ span.all h is.0 is.1);
      },
      (λ h e. let is = near h e in (omega (arith, span.from), omega (arith, span.to))),
    )

pub over_reached : (heap : Heap) (t : Table) (first n a many : ℕ) (test : Hugepage → Bool) (g : Hugepage → Hugepage) (f : ℕ → Hugepage → Hugepage) →
    Means t heap → IsOver heap first n a many test → ((h : ℕ) → reaches h (run_at first n) ≡ true → g (hugepage heap h) ≡ f h (hugepage heap h)) →
    (over_span a many g t).pages ≡ each (λ h x. cond (reaches h (run_at first n)) (f h x) x) t.pages
over_reached heap t first n a many test g f means is same = grind (arith, nat_tests, each_where, spans_reaches, at-heap)

-- a run that comes into shared hugepages, of which each is changed first
pub comes : (heap : Heap) (t s u : Table) (first n a many : ℕ) (test : Hugepage → Bool) (g : Hugepage → Hugepage) (f : ℕ → Hugepage → Hugepage) →
    Means t heap → IsSpan t a many test → 256 * a ≤ first → first < 256 * (a + 1) → 256 * (a + many) < first + n + 256 → first + n ≤ 256 * (a + many) →
    0 < n → s ≡ over_span a many g t → u.pages ≡ s.pages → IsNoted s u first n 0 true →
    ((h : ℕ) (x : Hugepage) → reaches h (run_at first n) ≡ true → test x ≡ true → (g x ≡ f h x) × ((is_shared x ≡ true) × (is_shared (f h x) ≡ true))) →
    Means u (placed heap first n f).heap
comes heap t s u first n a many test g f means span p q r l some made pages noted each_one =
    let run = run_at first n in
    let is = is_over t heap first n a many test means span p q r l some in
    shared_means heap first n true (with_run run heap.runs) f t u means (with_changed run heap.runs)
    (pages ∙ ap (λ (x : Table). x.pages) made ∙ over_reached heap t first n a many test g f means is.0 (λ h e. (each_one h (hugepage heap h) e (is.0.passes h e)).0))
    (noted_after t s u a many g first n 0 true made noted)
    (λ h e. (is.1 h e, (each_one h (hugepage heap h) e (is.0.passes h e)).1))

-- The row of a hugepage that isn't one run's, as the table has it.
pub row_at : (t : Inside) (now : Table) (heap : Heap) (h : ℕ) → table_of t ≡ now → AreKept t → Means now heap → h ≤ length now.pages →
    is_shared (hugepage heap h) ≡ true → take 256 (drop (256 * h) t.used) ≡ used_row heap.runs h
row_at t now heap h view kept means inside shared =
    let size = arena t now view in
    slice_is t.used (256 * h) 256 (omega (arith, kept.used))
    ∙ over_pages (bit t.used) (is_used heap.runs) h (λ page own. grind (arith, nat_tests))
