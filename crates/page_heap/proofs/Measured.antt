-- What a hugepage shows of itself, and what the choosers are told by it.
use Rattle.std.proofs.Common.{◌≡◌, ℕ, ◌+◌, ◌-◌, ◌*◌, ◌/◌, ◌<◌, ◌≤◌, ◌==◌, true, ◌&&◌, cond, length, count_by, Option, Some, None, sym, ap, ◌∙◌, inl, inr, arith}
use Rattle.page_heap.proofs.Common.{list_all, cases_Bool, and_right, Heap, Hugepage, hugepage, backs, is_used, is_free, is_filler, used_count}
use Rattle.page_heap.proofs.Common.{longest_range, allocation_count, backed_count, pages_of, tier, row_of, IsHugepageOf, IsSound, both, own_backs, Table}
use Rattle.page_heap.proofs.Common.{Means, Cache, with_huge, RowView, Measures, spare_of, measured, IsTold, measures_by, with_shown, with_freed}
use Rattle.heap_rules.proofs.Accounts.{whole_exactly}
use Rattle.page_heap.proofs.Steps.{over_range}

rest_of : (a b c : ℕ) → a + b ≡ c → c - a ≡ b
rest_of a b c e = omega arith

module _ (heap : Heap) (sound : IsSound heap) (h : ℕ) (own : IsHugepageOf heap.config.huge h) where
  abbrev x : Hugepage
  x = hugepage heap h

  size : length x.backed ≡ 256
  size = (sound.runs.fit h own).size

  backed_used : (p : ℕ) → 256 * h ≤ p → p < 256 * h + 256 → is_used heap.runs p ≡ (backs x p && is_used heap.runs p)
  backed_used p a b = elim (cases_Bool (is_used heap.runs p)) [
    | inl t ↦ (let at : p / 256 ≡ h = omega arith in let is : backs x p ≡ true = ap (λ i. backs (hugepage heap i) p) (sym at) ∙ sound.runs.backed p t in ap (λ b. b && is_used heap.runs p) (sym is))
    | inr f ↦ f ∙ sym (and_right (backs x p) _ f)
  ]

  -- its backed pages are used or spare
  pub pages_split : used_count heap.runs h + spare_of heap.runs h x ≡ backed_count x
  pages_split =
      ap (λ row. count_by (λ b. b) row + spare_of heap.runs h x) (over_range (is_used heap.runs) (λ p. backs x p && is_used heap.runs p) (256 * h) 256 backed_used)
      ∙ both x.backed (is_used heap.runs) (pages_of h) (backs x) (own_backs h x size)

  pub backed_whole : (backed_count x == 256) ≡ list_all (λ b. b) x.backed
  backed_whole = whole_exactly x.backed 256 size

  pub shown_measures : measures_by (row_of heap h) ≡ measured heap.runs h x
  shown_measures =
      let made : ℕ → ℕ → Option Measures =
      λ t spare. cond (is_filler x)
      (Some (record {
        tier = t;
        longest = longest_range heap.runs h;
        allocs = allocation_count heap.runs h;
        used = used_count heap.runs h;
        spare =
            spare;
        donated = x.donated;
      })) None in
      ap (λ b. made (cond b (cond x.donated 1 0) 2) (backed_count x - used_count heap.runs h)) backed_whole ∙ ap (made (tier x)) (rest_of _ _ _ pages_split)

-- a hugepage of the table is one of the arena
pub told_own : (table : Table) (heap : Heap) (h : ℕ) → IsTold table heap → 0 < h → h ≤ length table.pages → IsHugepageOf heap.config.huge h
told_own table heap h is from to = let arena = is.sound.runs.arena in let size = ap length is.means.pages in record { from = from; to = omega arith }

-- its row shows no fewer backed pages than used ones, and what the free hugepages are with it
pub shown_covered : (table : Table) (h : ℕ) (row : RowView) → (heap : Heap) × IsTold table heap → 0 < h → h ≤ length table.pages →
    ((heap : Heap) → IsSound heap → Means table heap → row ≡ row_of heap h) → row.used ≤ row.backed
shown_covered table h row (heap, is) from to e = rw (e heap is.sound is.means) (least _ _ _ (pages_split heap is.sound h (told_own table heap h is from to)))
  where
    least : (a b c : ℕ) → a + b ≡ c → a ≤ c
    least a b c e = omega arith

pub shown_freed : (cache : Cache) (heap : Heap) (h : ℕ) → IsSound heap → IsHugepageOf heap.config.huge h → with_shown cache h (row_of heap h) ≡ with_freed cache h (hugepage heap h)
shown_freed cache heap h sound own = ap (λ b. cond (is_free (hugepage heap h)) (with_huge cache h b) cache) (backed_whole heap sound h own)
