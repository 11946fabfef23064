-- Runs of whole hugepages, with a tail, come and leave.
use Rattle.std.proofs.Common.{◌≡◌, ℕ, ◌+◌, ◌-◌, ◌*◌, ◌/◌, ◌%◌, ◌<◌, ◌≤◌, ◌⊎◌, true, false, ◌&&◌, cond, nat_lt, length, refl, ap, ◌∙◌, inl, inr, arith}
use Rattle.huge_table.proofs.Common.{cases_lt, le-leb, le-ltb, leb-true, and_parts, and_right, false_from_ne_true}
use Rattle.huge_table.proofs.Common.{Run, Heap, Hugepage, hugepage, each, spans, reaches, holds, is_used, is_free, run_at, with_run, run_page, filler_page}
use Rattle.huge_table.proofs.Common.{run_or_tail, IsSound, each_each, each_where, reaches_parts, spans_reaches, spans_parts, spans_from, serves_at}
use Rattle.huge_table.proofs.Common.{is_Free, Table, IsSpan, IsNoted, is_between, over_span, Means, is_shared, taken, nat_tests}
use Rattle.tc_units.specs.declared.rows.RowKind.TheVariants as kind
use Rattle.heap_rules.specs.Choice.{hugepages_for}
use Rattle.heap_rules.proofs.Places.{at}
use Rattle.huge_table.proofs.Shared.{free_shared}
use Rattle.huge_table.proofs.Steps.{stepped, with_changed, shared_step, is_over}

-- what a run of n pages makes of a hugepage that it has whole, and of the one where it ends
abbrev pub becomes : ℕ → ℕ → ℕ → Hugepage
becomes n end k = cond (nat_lt n 256) (filler_page false) (run_or_tail end k)

pub whole_is : (n end k : ℕ) → 256 ≤ n → 256 * (k + 1) ≤ end → becomes n end k ≡ run_page
whole_is n end k large h = rw (le-ltb n 256 large, le-leb (256 * (k + 1)) end h) refl

pub tail_is : (n end k : ℕ) → end < 256 * (k + 1) → becomes n end k ≡ filler_page (nat_lt 0 (n / 256))
tail_is n end k h = grind (arith, nat_tests)

-- Where a run lies: in adjacent hugepages from the start of the first one on, of which it has the first ones whole, or
-- inside one hugepage.
pub record IsLaid (first n a whole tails : ℕ) : Type 0 where
  pub some : 0 < n
  pub few : tails ≤ 1
  pub begins : (whole ≡ 0) ⊎ (first % 256 ≡ 0)
  pub from : 256 * a ≤ first
  pub within : first < 256 * (a + 1)
  pub near : 256 * (a + (whole + tails)) < first + n + 256
  pub to : first + n ≤ 256 * (a + (whole + tails))

pub laid : (first n tails : ℕ) → 0 < n → (first % 256 ≡ 0) ⊎ (first % 256 + n ≤ 256) → tails ≡ (n + 255) / 256 - n / 256 → IsLaid first n (first / 256) (n / 256) tails
laid first n tails some lies e = grind (arith, nat_tests)

-- the pages of the hugepage behind those that it has whole are noted as those that it holds
pub tail_held : (first n a whole tails page : ℕ) → IsLaid first n a whole tails → a + whole ≤ page / 256 → is_between (first + 256 * whole) (first + n) page ≡ holds page (run_at first n)
tail_held first n a whole tails page laid late = grind (arith, nat_tests, laid.begins, laid.within)

-- Adjacent hugepages, of which the first ones and those behind them are changed in two ways.
pub two_spans : (t s u : Table) (a whole tails first n : ℕ) (g g' : Hugepage → Hugepage) (f : ℕ → Hugepage → Hugepage) →
    s.pages ≡ (over_span a whole g t).pages → u.pages ≡ (over_span (a + whole) tails g' s).pages → IsLaid first n a whole tails →
    ((k : ℕ) → a ≤ k → k < a + whole → g (at t.pages k) ≡ f k (at t.pages k)) →
    ((k : ℕ) → a + whole ≤ k → k < a + whole + tails → g' (at t.pages k) ≡ f k (at t.pages k)) →
    u.pages ≡ each (λ k x. cond (reaches k (run_at first n)) (f k x) x) t.pages
two_spans t s u a whole tails first n g g' f p q laid is is' =
    q ∙ ap (each (λ k x. cond (spans tails k (a + whole)) (g' x) x)) p
    ∙ each_each (λ k x. cond (spans tails k (a + whole)) (g' x) x) (λ k x. cond (spans whole k a) (g x) x) t.pages
    ∙ each_where _ _ t.pages (λ k _ _. grind (arith, nat_tests, spans_reaches, spans_parts, spans_from, laid.from, laid.within, laid.near, laid.to, laid.some))

module _ (heap : Heap) (sound : IsSound heap) (h n : ℕ) (some : 0 < n) (t u : Table) (means : Means t heap) (span : IsSpan t h (hugepages_for n) is_free) where
  abbrev run : Run
  run = run_at (256 * h) n

  abbrev whole : ℕ
  whole = n / 256

  abbrev end : ℕ
  end = 256 * h + n

  pub took_means : (tails : ℕ) → IsLaid (256 * h) n h whole tails → u.pages ≡ each (λ k x. cond (reaches k run) (becomes n end k) x) t.pages →
      IsNoted t u (256 * h) n (256 * whole) true → Means u (taken heap n h).heap
  took_means tails laid pages noted =
      let is = is_over t heap (256 * h) n h (hugepages_for n) is_free means span (omega arith) (omega arith) (omega arith) (omega arith) some in
      let changed = with_changed run heap.runs in
      stepped heap (256 * h) n (256 * whole) true (with_run run heap.runs) (λ k _. becomes n end k) t u means changed pages noted is.1
      (λ k page e own. (let x = hugepage heap k in
      let inside = is.1 k e in
      let parts = reaches_parts k run e in
      let arena = sound.runs.arena in
      let size = ap length means.pages in
      let free = is.0.passes k e in
      let fit = sound.runs.fit k (record { from = inside.0; to = omega (arith, inside.1) }) in
      let serves = serves_at heap.runs heap.regions heap.config.region k x kind.Free (is_Free x.kind free) fit in
      let none : is_used heap.runs page ≡ false = serves.0 page (record { from = omega arith; to = omega arith }) in
      elim (cases_lt k (h + whole)) [
        | inl early ↦ grind (arith, nat_tests, false_from_ne_true, leb-true, and_parts, is_shared, is_used, and_right, with_run, whole_is)
        | inr late ↦
            ap (λ b. cond b true (is_shared x && is_used heap.runs page)) (tail_held (256 * h) n h whole tails page laid (omega arith))
            ∙ shared_step x (becomes n end k) (holds page run) true (is_used heap.runs page) (is_used (with_run run heap.runs) page) (free_shared x free)
            (ap is_shared (tail_is n end k (omega arith))) (changed.used page)
      ]))
