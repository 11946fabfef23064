-- The backed pages of a heap, counted hugepage by hugepage. They cover the used ones.
use Rattle.std.proofs.Common.{◌≡◌, ℕ, ◌+◌, ◌*◌, ◌<◌, ◌≤◌, Bool, length, get_or, take, sum_by, sym, ap, ◌∙◌, arith}
use Rattle.page_heap.proofs.Common.{get_or_default, take_all, sum_by-le, count_by-le-length, sum_by_more, sum_by-take-le, range-within, Heap, Hugepage}
use Rattle.page_heap.proofs.Common.{hugepage, untouched, numbers, used_count, backed_count, used_pages, backed_pages, IsSound, self, sum-adds, sum-map'}
use Rattle.page_heap.proofs.Common.{at-next, spare_of, nat_tests}
use Rattle.page_heap.proofs.Measured.{pages_split}

module _ (heap : Heap) (sound : IsSound heap) where
  few_there : (k : ℕ) (d : Hugepage) → k < length heap.hugepages → backed_count (get_or heap.hugepages k d) ≤ 256
  few_there k d l =
      let size = ap (λ (x : Hugepage). length x.backed) (sym (at-next heap.hugepages k ∙ get_or_default heap.hugepages k untouched d l))
      ∙ (sound.runs.fit (1 + k) (record { from = omega arith; to = within _ _ l sound.runs.arena })).size in
      fits _ _ (count_by-le-length (λ (b : Bool). b) (get_or heap.hugepages k d).backed) size
    where
      within : (a b : ℕ) → k < a → a ≡ b → 1 + k ≤ b
      within a b l e = omega arith

      fits : (a b : ℕ) → a ≤ b → b ≡ 256 → a ≤ 256
      fits a b l e = omega arith

  pub backed_most : backed_pages heap ≤ 256 * heap.config.huge
  backed_most = turned _ _ _ (sum_by-le backed_count 256 heap.hugepages few_there) sound.runs.arena
    where
      turned : (s a b : ℕ) → s ≤ a * 256 → a ≡ b → s ≤ 256 * b
      turned s a b l e = omega arith

  pub covers : used_pages heap ≤ backed_pages heap
  covers =
      let all = sum-adds (used_count heap.runs) (λ h. spare_of heap.runs h (hugepage heap h)) (λ h. backed_count (hugepage heap h)) (numbers heap)
      (λ k d l. (let in' = range-within 1 (length heap.hugepages) k d l in pages_split heap sound (get_or (numbers heap) k d) (record { from = in'.0; to = below _ _ _ in'.1 sound.runs.arena }))) in
      part _ _ _ (all ∙ sym (ap (sum_by backed_count) (self heap.hugepages) ∙ sum-map' backed_count (hugepage heap) (numbers heap)))
    where
      below : (h a b : ℕ) → h < 1 + a → a ≡ b → h ≤ b
      below h a b l e = omega arith

      part : (a b c : ℕ) → a + b ≡ c → a ≤ c
      part a b c e = omega arith

  -- hugepage after hugepage
  pub backed_more : (k : ℕ) → k < length heap.hugepages → sum_by backed_count (take k heap.hugepages) + backed_count (hugepage heap (k + 1)) ≡ sum_by backed_count (take (k + 1) heap.hugepages)
  backed_more k l = grind (arith, nat_tests, sum_by, at-next, sum_by_more)

  pub backed_few : (k : ℕ) → sum_by backed_count (take k heap.hugepages) ≤ 256 * heap.config.huge
  backed_few k = grind (arith, nat_tests, sum_by-take-le, backed_most)

  pub backed_all : (k : ℕ) → k ≡ heap.config.huge → sum_by backed_count (take k heap.hugepages) ≡ backed_pages heap
  backed_all k e = grind (arith, nat_tests, sum_by, take_all)
