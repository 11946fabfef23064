-- A sound heap with one run more is sound, where each hugepage that the run reaches becomes what it should.
use Rattle.std.proofs.Common.{◌≡◌, ℕ, ◌+◌, ◌/◌, ◌≤◌, Bool, true, false, cond, List, count_by, All, refl, sym, ◌∙◌, arith}
use Rattle.std.proofs.lemmas.Bool.{false≢true}
use Rattle.std.proofs.lemmas.List.Elements.{All-weaker, All-contains}
use Rattle.std.proofs.lemmas.List.Folds.{Any-from_list_any}
use Rattle.std.proofs.lemmas.Bool.Decides.{nat_tests}
use Rattle.tc_units.specs.declared.spans.Run.{Run}
use Rattle.tc_units.proofs.SortedFacts.{All-with_item}
use Rattle.heap_rules.specs.Heap.{Heap, Hugepage, hugepage, holds, is_used, is_backed, backs, is_region, with_run, run_at, reaches}
use Rattle.heap_rules.specs.Sound.{IsInside, IsPageOf, IsHugepageOf, IsFit, IsRegion, AreRunsSound, IsSound}
use Rattle.heap_rules.specs.New.{placed}
use Rattle.heap_rules.proofs.Places.{length-each, at-each, page_of}
use Rattle.heap_rules.proofs.Live.{count-with, used_with_old, used_with_cases, unused_counts}
use Rattle.heap_rules.proofs.Fits.{holds_parts, holds_reaches, fit_more, spans_parts}

-- a page that a run inside the arena holds lies in one of its hugepages
pub held_in : (huge page : ℕ) (run : Run) → IsInside huge run → holds page run ≡ true → IsHugepageOf huge (page / 256)
held_in huge page run inside e = let parts = holds_parts page run e in record { from = omega (arith, inside.from); to = omega (arith, inside.to) }

pub used_in : (huge page : ℕ) (runs : List Run) → All (IsInside huge) runs → is_used runs page ≡ true → IsHugepageOf huge (page / 256)
used_in huge page runs inside e = grind (arith, Any-from_list_any, held_in, All-contains)

-- what a hugepage that the new run reaches becomes
pub record IsTurned (runs : List Run) (regions : List ℕ) (width : ℕ) (run : Run) (h : ℕ) (x y : Hugepage) : Type 0 where
  pub fit : IsFit (with_run run runs) regions width h y
  pub held : (page : ℕ) → IsPageOf h page → holds page run ≡ true → backs y page ≡ true
  pub kept : (page : ℕ) → IsPageOf h page → backs x page ≡ true → backs y page ≡ true
  pub region : is_region x ≡ true → is_region y ≡ true

abbrev pub Turns : Heap → Run → ℕ → Hugepage → Hugepage → Type 0
Turns heap = IsTurned heap.runs heap.regions heap.config.region

-- each one that it reaches becomes so
abbrev pub AreTurned : Heap → Run → (ℕ → Hugepage → Hugepage) → Type 0
AreTurned heap run becomes = (h : ℕ) → IsHugepageOf heap.config.huge h → reaches h run ≡ true → Turns heap run h (hugepage heap h) (becomes h (hugepage heap h))

-- a run whose pages no run has
abbrev pub IsUnused : Heap → Run → Type 0
IsUnused heap run = (p : ℕ) → holds p run ≡ true → is_used heap.runs p ≡ false

pub most_one : (b : Bool) (n m : ℕ) → n ≤ 1 → (b ≡ true → n ≡ 0) → m ≡ cond b 1 0 + n → m ≤ 1
most_one true n m h z e = let w = z refl in omega arith
most_one false n m h z e = omega arith

module _ (heap : Heap) (page n : ℕ) (becomes : ℕ → Hugepage → Hugepage) (sound : AreRunsSound heap) (inside : IsInside heap.config.huge (run_at page n))
    (unused : IsUnused heap (run_at page n)) (turned : AreTurned heap (run_at page n) becomes) where
  abbrev run : Run
  run = run_at page n

  abbrev change : ℕ → Hugepage → Hugepage
  change h x = cond (reaches h run) (becomes h x) x

  abbrev after : Heap
  after = (placed heap page n becomes).heap

  pub here : (h : ℕ) → IsHugepageOf heap.config.huge h → hugepage after h ≡ change h (hugepage heap h)
  here h is = let len = sound.arena in at-each change heap.hugepages h is.from (omega (arith, is.to))

  -- a fact of each hugepage, from it where the run reaches and where it does not
  by_reach : (P : Hugepage → Type 0) (h : ℕ) → IsHugepageOf heap.config.huge h → (reaches h run ≡ true → P (becomes h (hugepage heap h)))
      → (reaches h run ≡ false → P (hugepage heap h)) → P (hugepage after h)
  by_reach P h is yes' no' = grind (arith, nat_tests, here)

  pub grown_kept : (p : ℕ) → IsHugepageOf heap.config.huge (p / 256) → is_backed heap p ≡ true → is_backed after p ≡ true
  grown_kept p is e = by_reach (λ x. backs x p ≡ true) (p / 256) is (λ t. (turned (p / 256) is t).kept p (page_of p) e) (λ f. e)

  grown_held : (p : ℕ) → holds p run ≡ true → is_backed after p ≡ true
  grown_held p e =
      let is = held_in heap.config.huge p run inside e in
      by_reach (λ x. backs x p ≡ true) (p / 256) is (λ t. (turned (p / 256) is t).held p (page_of p) e) (λ f. absurd (false≢true (sym f ∙ holds_reaches (p / 256) p run (page_of p) e)))

  pub grown : AreRunsSound after
  grown = record {
    arena = length-each change heap.hugepages ∙ sound.arena;
    disjoint = λ p. most_one (holds p run) (count_by (holds p) heap.runs) _ (sound.disjoint p) (λ t. unused_counts heap.runs p (unused p t)) (count-with (holds p) run heap.runs);
    inside = All-with_item (λ (r : Run). r.first.0) (IsInside heap.config.huge) run heap.runs inside sound.inside;
    backed = grind (arith, used_with_cases run heap.runs, grown_held, grown_kept, used_in heap.config.huge);
    fit = λ h is.
        by_reach (IsFit (with_run run heap.runs) heap.regions heap.config.region h) h is (λ t. (turned h is t).fit)
        (λ f. fit_more run heap.runs heap.regions heap.config.region h (hugepage heap h) f (sound.fit h is));
    apart = sound.apart;
  }

  pub grown_kind : (h : ℕ) → IsHugepageOf heap.config.huge h → is_region (hugepage heap h) ≡ true → is_region (hugepage after h) ≡ true
  grown_kind h is e = by_reach (λ x. is_region x ≡ true) h is (λ t. (turned h is t).region e) (λ f. e)

  -- a region with a used page before or by the run
  pub grown_region : (r : ℕ) → IsRegion heap r → IsRegion after r
  grown_region r is = record {
    from = is.from;
    to = is.to;
    kinds = λ h s. grown_kind h (let parts = spans_parts heap.config.region h r s in record { from = omega (arith, is.from); to = omega (arith, is.to) }) (is.kinds h s);
    page = is.page;
    own = is.own;
    own_to = is.own_to;
    used = used_with_old run heap.runs is.page is.used;
  }

pub grown_sound : (heap : Heap) (page n : ℕ) (becomes : ℕ → Hugepage → Hugepage) → IsSound heap → IsInside heap.config.huge (run_at page n) → IsUnused heap (run_at page n)
    → AreTurned heap (run_at page n) becomes → IsSound (placed heap page n becomes).heap
grown_sound heap page n becomes sound inside unused turned = record {
  runs = grown heap page n becomes sound.runs inside unused turned;
  regions = All-weaker (IsRegion heap) (IsRegion (placed heap page n becomes).heap) (grown_region heap page n becomes sound.runs inside unused turned) heap.regions sound.regions;
}
