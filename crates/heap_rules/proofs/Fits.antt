-- What a hugepage serves, while runs that do not reach it come and go.
use Rattle.std.proofs.Common.{◌≡◌, ℕ, ◌+◌, ◌*◌, ◌<◌, ◌≤◌, true, false, List, refl, sym, subst, ◌∙◌, arith}
use Rattle.std.proofs.lemmas.Bool.{cases_Bool, and_from, and_parts, leb-true, ltb-true, lt-ltb, le-leb, false≢true, false_from_ne_true}
use Rattle.tc_units.specs.declared.spans.Run.{Run}
use Rattle.tc_units.specs.declared.rows.RowKind.{RowKind}
use Rattle.tc_units.specs.declared.rows.RowKind.TheVariants as kind
use Rattle.tc_units.proofs.SortedFacts.{Contains-old}
use Rattle.heap_rules.specs.Heap.{Hugepage, holds, run_at, with_run, reaches, spans, is_kind}
use Rattle.heap_rules.specs.Sound.{IsPageOf, HasUsed, HasOneRun, Serves, IsFit}
use Rattle.heap_rules.proofs.Live.{used_with_old, unused_with}

-- what a run holds, in numbers
pub holds_parts : (page : ℕ) (run : Run) → holds page run ≡ true → (run.first.0 ≤ page) × (page < run.first.0 + run.pages)
holds_parts page run e = let parts = and_parts _ _ e in (leb-true run.first.0 page parts.0, ltb-true page (run.first.0 + run.pages) parts.1)

pub holds_from : (page : ℕ) (run : Run) → run.first.0 ≤ page → page < run.first.0 + run.pages → holds page run ≡ true
holds_from page run a b = and_from _ _ (le-leb run.first.0 page a) (lt-ltb page (run.first.0 + run.pages) b)

pub reaches_parts : (h : ℕ) (run : Run) → reaches h run ≡ true → (run.first.0 < 256 * (h + 1)) × (256 * h < run.first.0 + run.pages)
reaches_parts h run e = let parts = and_parts _ _ e in (ltb-true run.first.0 (256 * (h + 1)) parts.0, ltb-true (256 * h) (run.first.0 + run.pages) parts.1)

pub reaches_from : (h : ℕ) (run : Run) → run.first.0 < 256 * (h + 1) → 256 * h < run.first.0 + run.pages → reaches h run ≡ true
reaches_from h run a b = and_from _ _ (lt-ltb run.first.0 (256 * (h + 1)) a) (lt-ltb (256 * h) (run.first.0 + run.pages) b)

-- a run that holds a page of a hugepage reaches it
pub holds_reaches : (h page : ℕ) (run : Run) → IsPageOf h page → holds page run ≡ true → reaches h run ≡ true
holds_reaches h page run own e = let parts = holds_parts page run e in reaches_from h run (omega (arith, own.from, own.to)) (omega (arith, own.from, own.to))

pub unreached_unheld : (h page : ℕ) (run : Run) → IsPageOf h page → reaches h run ≡ false → holds page run ≡ false
unreached_unheld h page run own e = false_from_ne_true (holds page run) (λ t. false≢true (sym e ∙ holds_reaches h page run own t))

pub spans_parts : (width h r : ℕ) → spans width h r ≡ true → (r ≤ h) × (h < r + width)
spans_parts width h r e = let parts = and_parts _ _ e in (leb-true r h parts.0, ltb-true h (r + width) parts.1)

pub spans_from : (width h r : ℕ) → r ≤ h → h < r + width → spans width h r ≡ true
spans_from width h r a b = and_from _ _ (le-leb r h a) (lt-ltb h (r + width) b)

-- adjacent hugepages are those that a run reaches
pub spans_reaches : (first n a many h : ℕ) → 256 * a ≤ first → first < 256 * (a + 1) → 256 * (a + many) < first + n + 256 → first + n ≤ 256 * (a + many) → 0 < n
    → spans many h a ≡ reaches h (run_at first n)
spans_reaches first n a many h p q r s some = grind (arith, cases_Bool, false_from_ne_true, false≢true, reaches_from, reaches_parts, spans_from, spans_parts)

-- runs that come: more is used
pub used_more : (run : Run) (runs : List Run) (h : ℕ) → HasUsed runs h → HasUsed (with_run run runs) h
used_more run runs h has = record { page = has.page; own = has.own; used = used_with_old run runs has.page has.used }

pub one_more : (run : Run) (runs : List Run) (h : ℕ) → HasOneRun runs h → HasOneRun (with_run run runs) h
one_more run runs h has = record { run = has.run; live = Contains-old (λ (r : Run). r.first.0) run runs has.run has.live; from = has.from; to = has.to }

-- and nothing where they do not reach
serves_more : (run : Run) (runs : List Run) (regions : List ℕ) (width h : ℕ) (x : Hugepage) (k : RowKind) → reaches h run ≡ false
    → Serves runs regions width h x k → Serves (with_run run runs) regions width h x k
serves_more run runs regions width h x k e s = grind (arith, unused_with, unreached_unheld, used_more, one_more)

pub fit_more : (run : Run) (runs : List Run) (regions : List ℕ) (width h : ℕ) (x : Hugepage) → reaches h run ≡ false → IsFit runs regions width h x
    → IsFit (with_run run runs) regions width h x
fit_more run runs regions width h x e fit = record { size = fit.size; serves = serves_more run runs regions width h x x.kind e fit.serves; donated = fit.donated }

-- what a hugepage of a known kind serves
pub serves_at : (runs : List Run) (regions : List ℕ) (width h : ℕ) (x : Hugepage) (k : RowKind) → x.kind ≡ k → IsFit runs regions width h x → Serves runs regions width h x k
serves_at runs regions width h x k e fit = subst (λ j. Serves runs regions width h x j) e fit.serves

pub is_Free : (k : RowKind) → is_kind kind.Free k ≡ true → k ≡ kind.Free
is_Free kind.Free e = refl
is_Free k e = absurd (false≢true e)

pub is_Region : (k : RowKind) → is_kind kind.Region k ≡ true → k ≡ kind.Region
is_Region kind.Region e = refl
is_Region k e = absurd (false≢true e)
