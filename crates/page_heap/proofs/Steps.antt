-- What one live run more or less leaves as it was.
use Rattle.std.proofs.Common.{◌≡◌, ℕ, zero, suc, ◌+◌, ◌*◌, ◌<◌, ◌≤◌, ◌==◌, Bool, true, false, not, ◌&&◌, cond, nat_lt, List, [], ◌∷◌, length, get_or, map}
use Rattle.std.proofs.Common.{filter, count_by, sum_by, Contains, Option, Some, None, refl, sym, ap, ◌∙◌, inl, inr, arith}
use Rattle.page_heap.proofs.Common.{list_any, range_with_len, cases_Bool, sum_by-cons, Run, count-cons}
use Rattle.page_heap.proofs.Common.{any_is_count, count_some, count_le, one-true, one-false, without_none, Heap, Hugepage, tier, is_filler, backs, is_used}
use Rattle.page_heap.proofs.Common.{reaches, used_row, allocation_count, pages_of, with_run, IsSound, count-with, counts_used, holds_from}
use Rattle.page_heap.proofs.Common.{unreached_unheld, count_rest, longest, begins_on, Measures, spare_of, measured, nat_tests}
use Rattle.std.proofs.lemmas.List.Folds.{Any-from_list_any}
use Rattle.heap_rules.specs.Heap.{holds, used_from, without_run}

-- Other live runs, of which as many pass each test that the one run fails.
pub record IsStep (runs rest : List Run) (run : Run) : Type 0 where
  pub counts : (p : Run → Bool) → p run ≡ false → count_by p rest ≡ count_by p runs

none_more : (a b c : ℕ) → a ≡ b + c → b ≡ 0 → a ≡ c
none_more a b c e z = omega arith

pub came : (run : Run) (runs : List Run) → IsStep runs (with_run run runs) run
came run runs = record { counts = λ p e. none_more _ _ _ (count-with p run runs) (one-false (p run) e) }

none_less : (a b c : ℕ) → a + b ≡ c → b ≡ 0 → a ≡ c
none_less a b c e z = omega arith

pub went : (heap : Heap) (run : Run) → IsSound heap → Contains heap.runs run → IsStep heap.runs (without_run run heap.runs) run
went heap run sound live = record { counts = λ p e. none_less _ _ _ (count_rest heap run sound live p) (one-false (p run) e) }

-- functions of the numbers of a range
pub over_range : {X : Type 0} (f g : ℕ → X) (first many : ℕ) → ((k : ℕ) → first ≤ k → k < first + many → f k ≡ g k) → map f (range_with_len first many) ≡ map g (range_with_len first many)
over_range f g first zero same = refl
over_range f g first (suc n) same = grind (arith, over_range f g (first + 1) n)

pub count-map : {X : Type 0} (f : X → Bool) (xs : List X) → count_by (λ b. b) (map f xs) ≡ count_by f xs
count-map f [] = refl
count-map f (x ∷ xs) = let a = count-cons (λ b. b) (f x) (map f xs) in let b = count-cons f x xs in let rest = count-map f xs in omega arith

module _ (runs rest : List Run) (run : Run) (step : IsStep runs rest run) where
  pub used-away : (page : ℕ) → holds page run ≡ false → is_used rest page ≡ is_used runs page
  used-away page e = any_is_count (holds page) rest ∙ ap (nat_lt 0) (step.counts (holds page) e) ∙ sym (any_is_count (holds page) runs)

  pub row-away : (first many : ℕ) → ((page : ℕ) → first ≤ page → page < first + many → holds page run ≡ false) → used_from rest first many ≡ used_from runs first many
  row-away first many away = over_range (is_used rest) (is_used runs) first many (λ page a b. used-away page (away page a b))

  module _ (h : ℕ) (e : reaches h run ≡ false) where
    unheld : (page : ℕ) → 256 * h ≤ page → page < 256 * h + 256 → holds page run ≡ false
    unheld page a b = unreached_unheld h page run (record { from = a; to = b }) e

    spare-away : (x : Hugepage) → spare_of rest h x ≡ spare_of runs h x
    spare-away x =
        sym (count-map (λ page. backs x page && not (is_used rest page)) (pages_of h))
        ∙ ap (count_by (λ b. b))
        (over_range (λ page. backs x page && not (is_used rest page)) (λ page. backs x page && not (is_used runs page)) (256 * h) 256
        (λ page a b. ap (λ u. backs x page && not u) (used-away page (unheld page a b))))
        ∙ count-map (λ page. backs x page && not (is_used runs page)) (pages_of h)

    pub measured-away : (x : Hugepage) → measured rest h x ≡ measured runs h x
    measured-away x =
        let made : List Bool → ℕ → ℕ → Option Measures =
        λ row allocs spare. cond (is_filler x)
        (Some (record { tier = tier x; longest = longest row; allocs = allocs; used = count_by (λ b. b) row; spare = spare; donated = x.donated }))
        None in
        ap (λ row. made row (allocation_count rest h) (spare_of rest h x)) (row-away (256 * h) 256 unheld)
        ∙ ap (λ n. made (used_row runs h) n (spare_of rest h x)) (step.counts (reaches h) e)
        ∙ ap (made (used_row runs h) (allocation_count runs h)) (spare-away x)

-- the pages of all runs but one that begins where no other does
pub sum_rest : {X : Type 0} (f : X → ℕ) (q : X → Bool) (xs : List X) (k : ℕ) (d : X) → k < length xs → q (get_or xs k d) ≡ true → count_by q xs ≤ 1 →
    sum_by f (filter (λ x. not (q x)) xs) + f (get_or xs k d) ≡ sum_by f xs
sum_rest f q [] k d l t most = absurd (omega arith)
sum_rest f q (x ∷ xs) zero d l t most = grind (arith, nat_tests, count-cons, without_none, sum_by-cons)
sum_rest f q (x ∷ xs) (suc k) d l t most =
    let a = count-cons q x xs in
    let some = count_some q xs k d (omega arith) t in
    elim (cases_Bool (q x)) [
      | inl s ↦ (let one = one-true (q x) s in absurd (omega arith))
      | inr n ↦
          (let rest = sum_rest f q xs k d (omega arith) t (omega arith) in
          let b = sum_by-cons f x xs in
          let c = sum_by-cons f x (filter (λ y. not (q y)) xs) in
          rw n (omega arith))
    ]

pub pages_rest : (heap : Heap) (run : Run) → IsSound heap → Contains heap.runs run → sum_by (λ r. r.pages) (without_run run heap.runs) + run.pages ≡ sum_by (λ r. r.pages) heap.runs
pages_rest heap run sound live =
    let q : Run → Bool = λ r. r.first.0 == run.first.0 in
    grind (arith, nat_tests, count_le q (holds run.first.0) heap.runs, holds_from, sum_rest (λ (r : Run). r.pages) q heap.runs live.0 run live.1)

-- where a page isn't used, no run begins
pub none_begins : (heap : Heap) (page : ℕ) → IsSound heap → is_used heap.runs page ≡ false → list_any (begins_on page) heap.runs ≡ false
none_begins heap page sound unused = grind (arith, nat_tests, Any-from_list_any, holds_from, counts_used, count_some)
