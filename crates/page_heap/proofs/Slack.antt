-- The slack, by the measures that the filler has.
use Rattle.std.proofs.Common.{◌≡◌, ℕ, ◌+◌, ◌-◌, ◌*◌, ◌%◌, ◌≤◌, Bool, cond, length, map, sum_by, None, refl, sym, ap, ◌∙◌, inl, inr, arith}
use Rattle.page_heap.proofs.Common.{cases_Bool, false≢true, false_from_ne_true, same_lists, length-map, get_or-map, length-range_with_len, nat_tests}
use Rattle.page_heap.proofs.Common.{length-map-range_with_len, get_or-map-range_with_len, sum-map, sum_by-le, Heap, hugepage, numbers, used_count, is_filler}
use Rattle.page_heap.proofs.Common.{hugepages_for, slack, IsHugepageOf, IsSound, at_number-next, donated_free, free_of_donated, Inside, measured, measures}
use Rattle.page_heap.proofs.Frames.{length-measures, measures_there, measured_none, measured_some}
use Rattle.page_heap.proofs.Results.{IsHeap}

abbrev free_pages : Heap → ℕ → ℕ
free_pages heap h = cond (hugepage heap h).donated (256 - used_count heap.runs h) 0

free_there : (heap : Heap) (h : ℕ) → IsSound heap → IsHugepageOf heap.config.huge h → free_of_donated (measured heap.runs h (hugepage heap h)) ≡ free_pages heap h
free_there heap h sound is = (let x = hugepage heap h in
    elim (cases_Bool (is_filler x)) [
      | inl own ↦ ap free_of_donated (measured_some heap.runs h x own)
      | inr other ↦ ap free_of_donated (measured_none heap.runs h x other)
          ∙ sym (ap (λ b. cond b (256 - used_count heap.runs h) 0)
          (false_from_ne_true x.donated (λ d. false≢true (sym other ∙ (sound.runs.fit h is).donated d))))
    ])

donated_is : (heap : Heap) → IsSound heap → donated_free (measures heap) ≡ sum_by (free_pages heap) (numbers heap)
donated_is heap sound =
    let arena = sound.runs.arena in
    let len = length-measures heap in
    let len' = length-map (measures heap) free_of_donated in
    let count = length-map-range_with_len (free_pages heap) 1 (length heap.hugepages) in
    let same : map free_of_donated (measures heap) ≡ map (free_pages heap) (numbers heap) = same_lists _ _ (omega arith)
    (λ k d l.
    (get_or-map free_of_donated (measures heap) k None d (omega arith)
    ∙ ap free_of_donated (sym (at_number-next None (measures heap) k) ∙ measures_there heap (1 + k) (omega arith) (omega arith))
    ∙ free_there heap (1 + k) sound (record { from = omega arith; to = omega arith })
    ∙ sym (get_or-map-range_with_len (free_pages heap) 1 (length heap.hugepages) k (1 + k) d (omega arith) refl))) in
    sym (sum-map free_of_donated (measures heap)) ∙ ap (sum_by (λ x. x)) same ∙ sum-map (free_pages heap) (numbers heap)

-- what n pages leave in their last hugepage
left_is : (n : ℕ) → (256 - n % 256) % 256 ≡ 256 * hugepages_for n - n
left_is n = omega arith

pub slack_is : {old : Inside} {heap : Heap} → IsHeap old heap → (n : ℕ) → donated_free old.filler + (256 - n % 256) % 256 ≡ slack heap n
slack_is {old} {heap} is n = ap (λ m. donated_free old.filler + m) (left_is n) ∙ ap (λ m. m + (256 * hugepages_for n - n)) (ap donated_free is.shows.filler ∙ donated_is heap is.well.sound)

small : (b : Bool) (m : ℕ) → cond b (256 - m) 0 ≤ 256
small b m = grind (arith, nat_tests)

bound : (a b c d e : ℕ) → a ≡ b → b ≤ c * 256 → c ≡ d → d ≡ e → e ≤ 4096 → a ≤ 1048576
bound a b c d e p q r s t = omega arith

pub few_donated : {old : Inside} {heap : Heap} → IsHeap old heap → donated_free old.filler ≤ 1048576
few_donated {old} {heap} is =
    let most = sum_by-le (free_pages heap) 256 (numbers heap) (λ k d l. small _ _) in
    bound _ _ _ _ _ (ap donated_free is.shows.filler ∙ donated_is heap is.well.sound) most (length-range_with_len 1 (length heap.hugepages)) is.well.sound.runs.arena is.well.limits.huge_to
