-- What a release does, by a look at each page before and after it.
use Rattle.std.specs.Prelude.{◌≡◌, ℕ, ◌/◌, ◌≤◌, ◌⊎◌, Bool, true, false, ◌&&◌, not, count_by, sum_by}
use Rattle.tc_units.specs.Units.{huge_pages}
use Rattle.heap_rules.specs.Heap.{Heap, numbers, pages_of, is_used, is_backed}
use Rattle.heap_rules.specs.Release.{Released, release, may_give}
use Rattle.heap_rules.specs.Sound.{IsSound}

-- whether a release may unback a page: it is backed, no live run holds it, and its hugepage is free, of the filler, or of a
-- region and without any used page
abbrev pub may_unback : Heap → ℕ → Bool
may_unback heap page = is_backed heap page && not (is_used heap.runs page) && may_give heap (page / huge_pages)

-- whether a page was backed before and isn't now
abbrev pub lost_backing : Heap → Heap → ℕ → Bool
lost_backing before after page = is_backed before page && not (is_backed after page)

-- how many pages of the arena were backed before and aren't now
abbrev pub unbacked_pages : Heap → Heap → ℕ
unbacked_pages before after = sum_by (λ h. count_by (lost_backing before after) (pages_of h)) (numbers before)

-- After a release of n pages at least n were unbacked, or no page is left that a release may unback; its number is that of
-- the pages that were backed before and aren't now; and each used page is backed.
pub record Unbacks (heap : Heap) (n : ℕ) (r : Released) : Type 0 where
  pub enough : (n ≤ r.pages) ⊎ ((page : ℕ) → may_unback r.heap page ≡ false)
  pub counted : r.pages ≡ unbacked_pages heap r.heap
  pub used : (page : ℕ) → is_used heap.runs page ≡ true → is_backed r.heap page ≡ true

-- of every sound heap
abbrev pub ReleaseDoes : Type 0
ReleaseDoes = (heap : Heap) (n : ℕ) → IsSound heap → Unbacks heap n (release heap n)
