-- Each route of a new run gives a sound heap with it.
use Rattle.std.proofs.Common.{◌≡◌, ℕ, ◌+◌, ◌*◌, ◌/◌, ◌<◌, ◌≤◌, Bool, true, false, sym, ap, ◌∙◌, arith, cond, subst, inl, inr}
use Rattle.std.proofs.lemmas.Bool.{le-leb, lt-leb, false≢true, cases_lt}
use Rattle.std.proofs.lemmas.List.{length-replicate}
use Rattle.tc_units.specs.declared.spans.Run.{Run}
use Rattle.tc_units.specs.declared.rows.RowKind.TheVariants as kind
use Rattle.tc_units.proofs.SortedFacts.{Contains-new}
use Rattle.heap_rules.specs.Heap.{Heap, Hugepage, hugepage, holds, is_used, is_free, is_region, is_kind, run_at, reaches}
use Rattle.heap_rules.specs.New.{placed, filler_page, run_page, run_or_tail, in_fresh}
use Rattle.heap_rules.specs.Sound.{IsInside, IsPageOf, IsHugepageOf, AreRunsSound, IsSound}
use Rattle.heap_rules.specs.Laws.{IsGiven}
use Rattle.heap_rules.proofs.Places.{backs-whole, page_of}
use Rattle.heap_rules.proofs.Live.{used_with_new}
use Rattle.heap_rules.proofs.Fits.{holds_from, reaches_parts, holds_reaches, serves_at, is_Free}
use Rattle.heap_rules.proofs.Grown.{AreTurned, IsUnused, Turns, held_in, grown_sound}
use Rattle.heap_rules.proofs.Chosen.{AreFree}

-- a route's answer, from what it does to the hugepages that the run reaches
pub given_by : (heap : Heap) (page n : ℕ) (becomes : ℕ → Hugepage → Hugepage) → IsSound heap → IsInside heap.config.huge (run_at page n) → IsUnused heap (run_at page n)
    → AreTurned heap (run_at page n) becomes → IsGiven heap n (placed heap page n becomes)
given_by heap page n becomes sound inside unused turned = grind (arith, grown_sound heap page n becomes sound inside unused turned)

pub free_not_region : (x : Hugepage) → is_free x ≡ true → is_region x ≡ true → ⊥
free_not_region x free region = false≢true (sym (ap (is_kind kind.Region) (is_Free x.kind free)) ∙ region)

-- a free hugepage that becomes the filler's, or a run's alone
turned_filler : (heap : Heap) (run : Run) (h page : ℕ) (donated : Bool) (x : Hugepage) → is_free x ≡ true → IsPageOf h page → holds page run ≡ true
    → Turns heap run h x (filler_page donated)
turned_filler heap run h page donated x free own' held =
    grind (arith, length-replicate 256 true, used_with_new run heap.runs page held, backs-whole true, free_not_region x free)

turned_run : (heap : Heap) (run : Run) (h : ℕ) (x : Hugepage) → is_free x ≡ true → run.first.0 ≤ 256 * h → 256 * h + 256 ≤ run.first.0 + run.pages → Turns heap run h x run_page
turned_run heap run h x free from to =
    grind (arith, length-replicate 256 true, Contains-new (λ (r : Run). r.first.0) run heap.runs, backs-whole true, free_not_region x free)

-- a page of a free hugepage is unused
pub free_unused : (heap : Heap) (h page : ℕ) → AreRunsSound heap → IsHugepageOf heap.config.huge h → is_free (hugepage heap h) ≡ true → IsPageOf h page → is_used heap.runs page ≡ false
free_unused heap h page sound is free own' = (serves_at heap.runs heap.regions heap.config.region h (hugepage heap h) kind.Free (is_Free (hugepage heap h).kind free) (sound.fit h is)).0 page own'

module _ (heap : Heap) (n h m : ℕ) (sound : IsSound heap) (some : 0 < n) (fits : n ≤ 256 * m) (are : AreFree heap h m) where
  pub inside_free : IsInside heap.config.huge (run_at (256 * h) n)
  inside_free = let len = sound.runs.arena in record { some = some; from = omega (arith, are.from); to = omega (arith, are.to) }

  pub reached_free : (k : ℕ) → reaches k (run_at (256 * h) n) ≡ true → (h ≤ k) × (k < h + m)
  reached_free k e = let parts = reaches_parts k (run_at (256 * h) n) e in (omega arith, omega arith)

  pub unused_free : IsUnused heap (run_at (256 * h) n)
  unused_free p e =
      let near = reached_free (p / 256) (holds_reaches (p / 256) p (run_at (256 * h) n) (page_of p) e) in
      free_unused heap (p / 256) p sound.runs (held_in heap.config.huge p (run_at (256 * h) n) inside_free e) (are.free (p / 256) near.0 near.1) (page_of p)

  -- the run route
  turned_free : AreTurned heap (run_at (256 * h) n) (λ k x. run_or_tail (256 * h + n) k)
  turned_free k is e =
      let near = reached_free k e in
      let free = are.free k near.0 near.1 in
      let parts = reaches_parts k (run_at (256 * h) n) e in
      let P = Turns heap (run_at (256 * h) n) k (hugepage heap k) in
      let own : IsPageOf k (256 * k) = record { from = omega arith; to = omega arith } in
      elim (cases_lt (256 * h + n) (256 * (k + 1))) [
        | inl tail ↦ subst (λ b. P (cond b run_page (filler_page true))) (sym (lt-leb (256 * (k + 1)) (256 * h + n) tail))
            (turned_filler heap (run_at (256 * h) n) k (256 * k) true (hugepage heap k) free own (holds_from (256 * k) (run_at (256 * h) n) (omega arith) parts.1))
        | inr all ↦ subst (λ b. P (cond b run_page (filler_page true))) (sym (le-leb (256 * (k + 1)) (256 * h + n) all))
            (turned_run heap (run_at (256 * h) n) k (hugepage heap k) free (omega arith) (omega arith))
      ]

  pub given_free : IsGiven heap n (placed heap (256 * h) n (λ k _. run_or_tail (256 * h + n) k))
  given_free = given_by heap (256 * h) n (λ k _. run_or_tail (256 * h + n) k) sound inside_free unused_free turned_free

  -- a free hugepage for the filler
  pub given_fresh : m ≡ 1 → IsGiven heap n (in_fresh heap n h)
  given_fresh one = given_by heap (256 * h) n (λ _ _. filler_page false) sound inside_free unused_free
      (λ k is e.
      let near = reached_free k e in
      let parts = reaches_parts k (run_at (256 * h) n) e in
      let own : IsPageOf k (256 * k) = record { from = omega arith; to = omega arith } in
      turned_filler heap (run_at (256 * h) n) k (256 * k) false (hugepage heap k) (are.free k near.0 near.1) own (holds_from (256 * k) (run_at (256 * h) n) (omega arith) parts.1))
