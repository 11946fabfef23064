-- The used pages of a range, counted run by run.
use Rattle.std.proofs.Common.{◌≡◌, ℕ, zero, suc, ◌+◌, ◌-◌, ◌*◌, ◌≤◌, Bool, cond, min, max, List, [], ◌∷◌, get_or, count_by, sum_by, refl, sym, ◌∙◌, arith}
use Rattle.page_heap.proofs.Common.{range_with_len, sum_by-cons, Run, count-cons, one-true, one-false, Heap, is_used}
use Rattle.page_heap.proofs.Common.{used_count, used_pages, IsSound, used_counts, unused_counts, holds_parts, holds_from, same_sums, sum-adds, nat_tests}
use Rattle.heap_rules.specs.Heap.{holds, used_from}
use Rattle.page_heap.proofs.Steps.{count-map}

sum_none : {X : Type 0} (xs : List X) → sum_by (λ x. 0) xs ≡ 0
sum_none [] = refl
sum_none (x ∷ xs) = let a = sum_by-cons (λ x. 0) x xs in let rest = sum_none xs in omega arith

-- what passes a test of two, counted by the first and by the second
pub count_swap : {P R : Type 0} (q : P → R → Bool) (ps : List P) (rs : List R) → sum_by (λ p. count_by (q p) rs) ps ≡ sum_by (λ r. count_by (λ p. q p r) ps) rs
count_swap q [] rs = sym (sum_none rs)
count_swap q (p ∷ ps) rs =
    let rest = count_swap q ps rs in let a = sum_by-cons (λ p. count_by (q p) rs) p ps in
    let b = sum-adds (λ r. cond (q p r) 1 0) (λ r. count_by (λ p. q p r) ps) (λ r. count_by (λ p. q p r) (p ∷ ps)) rs (λ i d l. sym (count-cons (λ p. q p (get_or rs i d)) p ps)) in
    omega arith

-- how many pages of a range a run holds
abbrev pub pages_in : ℕ → ℕ → Run → ℕ
pages_in first many run = min (run.first.0 + run.pages) (first + many) - max run.first.0 first

pub held_count : (run : Run) (first many : ℕ) → count_by (λ p. holds p run) (range_with_len first many) ≡ pages_in first many run
held_count run first zero = omega arith
held_count run first (suc n) =
    grind (arith, held_count run (first + 1) n, count-cons (λ p. holds p run) first (range_with_len (first + 1) n), holds_parts, holds_from)

-- a page of disjoint runs is used where one holds it
one_holds : (runs : List Run) (p : ℕ) → count_by (holds p) runs ≤ 1 → cond (is_used runs p) 1 0 ≡ count_by (holds p) runs
one_holds runs p most = grind (arith, nat_tests, used_counts runs p, one-true (is_used runs p), unused_counts runs p, one-false (is_used runs p))

-- a range and the one behind it
adjacent : (r : Run) (h n : ℕ) → pages_in (256 * h) 256 r + pages_in (256 * (h + 1)) (256 * n) r ≡ pages_in (256 * h) (256 * suc n) r
adjacent r h n = omega arith

join_up : (a b c d e f : ℕ) → a ≡ b + c → b ≡ d → c ≡ e → d + e ≡ f → a ≡ f
join_up a b c d e f p q r s = omega arith

module _ (runs : List Run) (disjoint : (p : ℕ) → count_by (holds p) runs ≤ 1) where
  pub used_by_runs : (first many : ℕ) → count_by (λ b. b) (used_from runs first many) ≡ sum_by (pages_in first many) runs
  used_by_runs first many =
      count-map (is_used runs) (range_with_len first many)
      ∙ same_sums (λ p. cond (is_used runs p) 1 0) (λ p. count_by (holds p) runs) (range_with_len first many)
      (λ k d l. one_holds runs (get_or (range_with_len first many) k d) (disjoint (get_or (range_with_len first many) k d)))
      ∙ count_swap holds (range_with_len first many) runs
      ∙ same_sums (λ r. count_by (λ p. holds p r) (range_with_len first many)) (pages_in first many) runs (λ k d l. held_count (get_or runs k d) first many)

  pub used_of_hugepages : (h n : ℕ) → sum_by (used_count runs) (range_with_len h n) ≡ sum_by (pages_in (256 * h) (256 * n)) runs
  used_of_hugepages h zero = sym (same_sums (pages_in (256 * h) (256 * 0)) (λ r. 0) runs (λ k d l. omega arith) ∙ sum_none runs)
  used_of_hugepages h (suc n) =
      let a = sum_by-cons (used_count runs) h (range_with_len (h + 1) n) in let rest = used_of_hugepages (h + 1) n in
      let first = used_by_runs (256 * h) 256 in
      let both = sum-adds (pages_in (256 * h) 256) (pages_in (256 * (h + 1)) (256 * n)) (pages_in (256 * h) (256 * suc n)) runs (λ i d l. adjacent (get_or runs i d) h n) in
      join_up _ _ _ _ _ _ a first rest both

-- the used pages of a heap are those of its runs
pub used_pages_are : (heap : Heap) → IsSound heap → used_pages heap ≡ sum_by (λ run. run.pages) heap.runs
used_pages_are heap sound = grind (arith, nat_tests, used_of_hugepages, same_sums, sound.runs.arena, sound.runs.disjoint)
