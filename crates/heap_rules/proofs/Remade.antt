-- A sound heap whose hugepages change, while no page comes into use.
use Rattle.std.proofs.Common.{◌≡◌, ℕ, ◌+◌, ◌<◌, ◌≤◌, true, List, count_by, All, sym, subst, ◌∙◌, arith}
use Rattle.std.proofs.lemmas.List.Elements.{All-weaker}
use Rattle.tc_units.specs.declared.spans.Run.{Run}
use Rattle.heap_rules.specs.Heap.{Heap, Hugepage, hugepage, each, holds, is_used, is_region, backs, spans}
use Rattle.heap_rules.specs.Sound.{IsInside, IsPageOf, IsHugepageOf, IsFit, IsRegion, AreRunsSound, IsSound}
use Rattle.heap_rules.proofs.Places.{length-each, at-each, page_of}
use Rattle.heap_rules.proofs.Fits.{spans_parts}
use Rattle.heap_rules.proofs.Grown.{used_in}

-- a heap with other runs, regions and counts, and each hugepage changed
abbrev pub remade : Heap → List Run → List ℕ → (ℕ → Hugepage → Hugepage) → List ℕ → Heap
remade heap runs regions f counts = record heap { runs = runs; regions = regions; hugepages = each f heap.hugepages; counts = counts }

-- what hugepage h may become: it fits the runs and the regions, and no used page of it is unbacked
pub record IsRemade (runs : List Run) (regions : List ℕ) (width h : ℕ) (x y : Hugepage) : Type 0 where
  pub fit : IsFit runs regions width h y
  pub kept : (p : ℕ) → IsPageOf h p → is_used runs p ≡ true → backs x p ≡ true → backs y p ≡ true

abbrev pub Remakes : Heap → ℕ → Hugepage → Hugepage → Type 0
Remakes heap = IsRemade heap.runs heap.regions heap.config.region

abbrev pub AreRemade : Heap → List Run → List ℕ → (ℕ → Hugepage → Hugepage) → Type 0
AreRemade heap runs regions f = (h : ℕ) → IsHugepageOf heap.config.huge h → IsRemade runs regions heap.config.region h (hugepage heap h) (f h (hugepage heap h))

-- what the other runs are
pub record AreFewer (heap : Heap) (runs : List Run) : Type 0 where
  pub disjoint : (page : ℕ) → count_by (holds page) runs ≤ 1
  pub inside : All (IsInside heap.config.huge) runs
  pub used : (page : ℕ) → is_used runs page ≡ true → is_used heap.runs page ≡ true

pub same_runs : (heap : Heap) → AreRunsSound heap → AreFewer heap heap.runs
same_runs heap sound = record { disjoint = sound.disjoint; inside = sound.inside; used = λ p e. e }

module _ (heap : Heap) (runs : List Run) (regions : List ℕ) (f : ℕ → Hugepage → Hugepage) (counts : List ℕ) (sound : AreRunsSound heap) where
  pub here : (h : ℕ) → IsHugepageOf heap.config.huge h → hugepage (remade heap runs regions f counts) h ≡ f h (hugepage heap h)
  here h is = let len = sound.arena in at-each f heap.hugepages h is.from (omega (arith, is.to))

  pub remade_sound : AreFewer heap runs → ((h : ℕ) → count_by (spans heap.config.region h) regions ≤ 1) → AreRemade heap runs regions f → AreRunsSound (remade heap runs regions f counts)
  remade_sound fewer apart made = record {
    arena = length-each f heap.hugepages ∙ sound.arena;
    disjoint = fewer.disjoint;
    inside = fewer.inside;
    backed = grind (arith, used_in heap.config.huge, here, made, page_of, fewer.used);
    fit = λ h is. (let P : Hugepage → Type 0 = λ x. IsFit runs regions heap.config.region h x in subst P (sym (here h is)) (made h is).fit);
    apart = apart;
  }

  -- a region whose hugepages stay of a region
  pub region_kinds : (r : ℕ) → 0 < r → r + heap.config.region ≤ heap.config.huge + 1 → ((h : ℕ) → spans heap.config.region h r ≡ true → is_region (f h (hugepage heap h)) ≡ true)
      → (h : ℕ) → spans heap.config.region h r ≡ true → is_region (hugepage (remade heap runs regions f counts) h) ≡ true
  region_kinds r from to stays h e = grind (arith, here, spans_parts)

-- with the same runs and regions
pub remade_same : (heap : Heap) (f : ℕ → Hugepage → Hugepage) (counts : List ℕ) → IsSound heap → AreRemade heap heap.runs heap.regions f
    → ((h : ℕ) (x : Hugepage) → is_region x ≡ true → is_region (f h x) ≡ true) → IsSound (remade heap heap.runs heap.regions f counts)
remade_same heap f counts sound made stays =
    grind (
      arith,
      remade_sound heap heap.runs heap.regions f counts sound.runs (same_runs heap sound.runs) sound.runs.apart made,
      same_runs heap sound.runs,
      All-weaker (IsRegion heap) (IsRegion (remade heap heap.runs heap.regions f counts)),
      region_kinds heap heap.runs heap.regions f counts sound.runs,
      stays,
    )
