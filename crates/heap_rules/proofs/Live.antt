-- The live runs with one more and with one less: counts, used pages and members.
use Rattle.std.proofs.Common.{◌≡◌, ℕ, zero, suc, ◌+◌, ◌<◌, ◌≤◌, ◌⊎◌, Bool, true, false, not, cond, nat_lt, List, [], ◌∷◌, length, get_or, filter, count_by}
use Rattle.std.proofs.Common.{Contains, refl, sym, ap, subst, ◌∙◌, arith}
use Rattle.std.proofs.lemmas.Bool.{ltb-true, lt-ltb}
use Rattle.std.proofs.lemmas.Bool.Decides.{nat_tests}
use Rattle.tc_units.specs.declared.spans.Run.{Run}
use Rattle.heap_rules.specs.Heap.{holds, is_used, with_run}
use Rattle.tc_units.proofs.Counts.{count-cons, any_is_count, count_some, one-true, one-false}
use Rattle.tc_units.proofs.SortedFacts.{without_none}
pub use Rattle.tc_units.proofs.SortedFacts.{count-with_item}

-- a page is used exactly where a run that holds it is counted
pub used_counts : (runs : List Run) (page : ℕ) → is_used runs page ≡ true → 0 < count_by (holds page) runs
used_counts runs page e = ltb-true 0 (count_by (holds page) runs) (sym (any_is_count (holds page) runs) ∙ e)

pub counts_used : (runs : List Run) (page : ℕ) → 0 < count_by (holds page) runs → is_used runs page ≡ true
counts_used runs page h = any_is_count (holds page) runs ∙ lt-ltb 0 (count_by (holds page) runs) h

pub unused_counts : (runs : List Run) (page : ℕ) → is_used runs page ≡ false → count_by (holds page) runs ≡ 0
unused_counts runs page e = grind (arith, nat_tests, counts_used runs page)

pub counts_unused : (runs : List Run) (page : ℕ) → count_by (holds page) runs ≡ 0 → is_used runs page ≡ false
counts_unused runs page e = any_is_count (holds page) runs ∙ ap (nat_lt 0) e

-- One more.
pub count-with : (p : Run → Bool) (run : Run) (runs : List Run) → count_by p (with_run run runs) ≡ cond (p run) 1 0 + count_by p runs
count-with p run runs = count-with_item (λ (r : Run). r.first.0) p run runs

pub used_with_old : (run : Run) (runs : List Run) (page : ℕ) → is_used runs page ≡ true → is_used (with_run run runs) page ≡ true
used_with_old run runs page e = let a = used_counts runs page e in let b = count-with (holds page) run runs in counts_used (with_run run runs) page (omega arith)

pub used_with_new : (run : Run) (runs : List Run) (page : ℕ) → holds page run ≡ true → is_used (with_run run runs) page ≡ true
used_with_new run runs page e = let a = one-true (holds page run) e in let b = count-with (holds page) run runs in counts_used (with_run run runs) page (omega arith)

pub used_with_cases : (run : Run) (runs : List Run) (page : ℕ) → is_used (with_run run runs) page ≡ true → (holds page run ≡ true) ⊎ (is_used runs page ≡ true)
used_with_cases run runs page e =
    grind (arith, nat_tests, used_counts (with_run run runs) page e, count-with (holds page) run runs, one-false (holds page run), counts_used runs page)

pub unused_with : (run : Run) (runs : List Run) (page : ℕ) → holds page run ≡ false → is_used runs page ≡ false → is_used (with_run run runs) page ≡ false
unused_with run runs page f e = counts_unused (with_run run runs) page (omega (arith, unused_counts runs page e, count-with (holds page) run runs, one-false (holds page run) f))

-- One element less, by a test that one element alone passes.
pub count-filter_le : {X : Type 0} (p q : X → Bool) (xs : List X) → count_by p (filter q xs) ≤ count_by p xs
count-filter_le p q [] = omega arith
count-filter_le p q (x ∷ xs) = grind (arith, count-filter_le p q xs, count-cons)

pub count-without : {X : Type 0} (p q : X → Bool) (xs : List X) (k : ℕ) (d : X) → k < length xs → q (get_or xs k d) ≡ true → count_by q xs ≤ 1
    → count_by p (filter (λ x. not (q x)) xs) + cond (p (get_or xs k d)) 1 0 ≡ count_by p xs
count-without p q [] k d h t most = absurd (omega arith)
count-without p q (x ∷ xs) zero d h t most = grind (arith, count-cons, one-true, without_none)
count-without p q (x ∷ xs) (suc k) d h t most = grind (arith, nat_tests, count-without p q xs k d, count-cons, count_some, one-true, one-false)

pub Contains-cons : {X : Type 0} (x : X) (xs : List X) (y : X) → Contains xs y → Contains (x ∷ xs) y
Contains-cons x xs y at = (suc at.0, omega (arith, at.1), at.2)

pub Contains-filter : {X : Type 0} (q : X → Bool) (xs : List X) (k : ℕ) (d : X) → k < length xs → q (get_or xs k d) ≡ true → Contains (filter q xs) (get_or xs k d)
Contains-filter q [] k d h t = absurd (omega arith)
Contains-filter q (x ∷ xs) zero d h t = rw t (0, omega arith, refl)
Contains-filter q (x ∷ xs) (suc k) d h t =
    let rest = Contains-filter q xs k d (omega arith) t in
    elim (q x) as (λ b. Contains (cond b (x ∷ filter q xs) (filter q xs)) (get_or xs k d)) [
      | true ↦ Contains-cons x (filter q xs) (get_or xs k d) rest
      | false ↦ rest
    ]

-- what a list has and a test passes is in what passes
pub filter_holds : {X : Type 0} (p : X → Bool) (xs : List X) (x : X) → Contains xs x → p x ≡ true → Contains (filter p xs) x
filter_holds p xs x held pass = subst (Contains (filter p xs)) held.2 (Contains-filter p xs held.0 x held.1 (ap p held.2 ∙ pass))
