-- How many runs have a page of a hugepage: those that begin in it, and one that reaches into it.
use Rattle.std.proofs.Common.{◌≡◌, ℕ, zero, suc, ◌+◌, ◌*◌, ◌≤◌, ◌==◌, Bool, ◌&&◌, not, cond, List, map, get_or, count_by, refl, sym, ap, ◌∙◌, arith}
use Rattle.huge_table.proofs.Common.{list_any, range_with_len, false_from_ne_true, sum_by-map-range_with_len_more, Run, any_is_count}
use Rattle.huge_table.proofs.Common.{count_le, count_none, Heap, holds, reaches, is_used, allocation_count, pages_of, IsInside, IsSound, holds_from}
use Rattle.huge_table.proofs.Common.{used_count, is_between, begins_on, nat_tests}
use Rattle.heap_rules.proofs.Accounts.{sum-adds}
use Rattle.huge_table.proofs.Pages.{between_parts}

abbrev one : Bool → ℕ
one b = cond b 1 0

-- runs that begin on one of n pages
abbrev begins_in : ℕ → ℕ → Run → Bool
begins_in from to run = is_between from to run.first.0

one_page : (a n f : ℕ) → one (is_between a (a + n) f) + one (f == a + n) ≡ one (is_between a (a + (n + 1)) f)
one_page a n f = grind (arith, nat_tests)

at_most : (p : Run → Bool) (runs : List Run) → count_by p runs ≤ 1 → one (list_any p runs) ≡ count_by p runs
at_most p runs few = grind (arith, nat_tests, any_is_count)

begun : (runs : List Run) (a n : ℕ) → ((page : ℕ) → count_by (begins_on page) runs ≤ 1) →
    used_count (map (λ page. list_any (begins_on page) runs) (range_with_len a n)) ≡ count_by (begins_in a (a + n)) runs
begun runs a zero few = sym (count_none (begins_in a (a + 0)) runs (λ k d l. false_from_ne_true _ (λ t. (let parts = between_parts a (a + 0) (get_or runs k d).first.0 t in absurd (omega arith)))))
begun runs a (suc n) few =
    let next : suc n ≡ n + 1 = omega arith in
    ap (λ m. used_count (map (λ page. list_any (begins_on page) runs) (range_with_len a m))) next
    ∙ sum_by-map-range_with_len_more one (λ page. list_any (begins_on page) runs) a n (a + n) refl
    ∙ adds _ _ _ _ _ (begun runs a n few) (at_most (begins_on (a + n)) runs (few (a + n)))
    (sum-adds (λ r. one (begins_in a (a + n) r)) (λ r. one (begins_on (a + n) r)) (λ r. one (begins_in a (a + (n + 1)) r)) runs (λ k d l. one_page a n (get_or runs k d).first.0))
    ∙ ap (λ m. count_by (begins_in a (a + m)) runs) (sym next)
  where
    adds : (a b c d e : ℕ) → a ≡ c → b ≡ d → c + d ≡ e → a + b ≡ e
    adds a b c d e p q r = omega arith

module _ (heap : Heap) (sound : IsSound heap) (h : ℕ) where
  -- a run that has a hugepage's first page and begins before it
  abbrev into : Run → Bool
  into r = holds (256 * h) r && not (begins_on (256 * h) r)

  each_one : (r : Run) → IsInside heap.config.huge r → one (begins_in (256 * h) (256 * h + 256) r) + one (into r) ≡ one (reaches h r)
  each_one r inside = grind (arith, nat_tests, inside.some)

  few_begin : (page : ℕ) → count_by (begins_on page) heap.runs ≤ 1
  few_begin page = grind (arith, count_le (begins_on page) (holds page) heap.runs, holds_from)

  -- one such run is there where the page is used and no run begins on it
  into_is : count_by into heap.runs ≡ one (is_used heap.runs (256 * h) && not (list_any (begins_on (256 * h)) heap.runs))
  into_is =
      let p : ℕ = 256 * h in
      let all = sum-adds (λ r. one (begins_on p r)) (λ r. one (into r)) (λ r. one (holds p r)) heap.runs (λ k d l. grind (arith, nat_tests, holds_from)) in
      grind (arith, nat_tests, at_most, begins_on, few_begin, list_any, is_used)

  pub allocs_are : used_count (map (λ page. list_any (begins_on page) heap.runs) (pages_of h)) + one
      (is_used heap.runs (256 * h) && not (list_any (begins_on (256 * h)) heap.runs)) ≡ allocation_count heap.runs h
  allocs_are = adds _ _ _ _ _ (begun heap.runs (256 * h) 256 few_begin) into_is
      (sum-adds (λ r. one (begins_in (256 * h) (256 * h + 256) r)) (λ r. one (into r)) (λ r. one (reaches h r)) heap.runs
      (λ k d l. each_one (get_or heap.runs k d) (sound.runs.inside k d l)))
    where
      adds : (a b c d e : ℕ) → a ≡ c → d ≡ b → c + d ≡ e → a + b ≡ e
      adds a b c d e p q r = omega arith
