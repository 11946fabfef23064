-- A sound heap settles to a sound heap.
use Rattle.std.proofs.Common.{◌≡◌, ℕ, Bool, true, false, cond, List, map, sym, subst, ◌∙◌, inl, inr, arith}
use Rattle.std.proofs.lemmas.Bool.{cases_Bool, and_parts, false≢true}
use Rattle.std.proofs.lemmas.List.{length-replicate}
use Rattle.tc_units.specs.declared.spans.Run.{Run}
use Rattle.heap_rules.specs.Heap.{Heap, Hugepage, hugepage, is_free, is_free_backed, is_region}
use Rattle.heap_rules.specs.CacheFlags.{is_over, limit}
use Rattle.heap_rules.specs.Settle.{unbacked, counted, settled}
use Rattle.heap_rules.specs.Sound.{IsFit, IsSound}
use Rattle.heap_rules.proofs.Places.{map-at}
use Rattle.heap_rules.proofs.Fits.{serves_at, is_Free}
use Rattle.heap_rules.proofs.Remade.{IsRemade, remade_same}

-- a free hugepage without its backing
pub remade_unbacked : (runs : List Run) (regions : List ℕ) (width h : ℕ) (x : Hugepage) → is_free x ≡ true → IsFit runs regions width h x → IsRemade runs regions width h x (unbacked x)
remade_unbacked runs regions width h x free fit = grind (arith, false≢true, is_Free, length-replicate, serves_at)

pub remade_not : (runs : List Run) (regions : List ℕ) (width h : ℕ) (x : Hugepage) → IsFit runs regions width h x → IsRemade runs regions width h x x
remade_not runs regions width h x fit = record { fit = fit; kept = λ p own e b. b }

pub settled_sound : (heap : Heap) → IsSound heap → IsSound (settled heap)
settled_sound heap sound =
    let over : ℕ → Bool = is_over (limit heap.config.cache (counted heap)) (map is_free_backed heap.hugepages) in
    let f : ℕ → Hugepage → Hugepage = λ h x. cond (over h) (unbacked x) x in
    remade_same heap f (counted heap) sound (λ h is.
    let x = hugepage heap h in
    let len = sound.runs.arena in
    let P : Bool → Type 0 = λ b. IsRemade heap.runs heap.regions heap.config.region h x (cond b (unbacked x) x) in
    elim (cases_Bool (over h)) [
      | inl t ↦
          (let ready : is_free_backed x ≡ true = sym (map-at is_free_backed heap.hugepages h false is.from (omega (arith, is.to))) ∙ (and_parts _ _ t).0 in
          subst P (sym t) (remade_unbacked heap.runs heap.regions heap.config.region h x (and_parts _ _ ready).0 (sound.runs.fit h is)))
      | inr n ↦ subst P (sym n) (remade_not heap.runs heap.regions heap.config.region h x (sound.runs.fit h is))
    ]) (λ h x e. elim (over h) as (λ b. is_region (cond b (unbacked x) x) ≡ true) [ true ↦ e | false ↦ e ])
