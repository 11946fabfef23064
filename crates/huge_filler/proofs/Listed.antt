-- A list that has one key for each hugepage, whatever it measures.
use Rattle.std.proofs.lemmas.Bool.Decides.{nat_tests}
use Rattle.std.proofs.Common.{◌≡◌, ℕ, zero, suc, ◌+◌, ◌-◌, ◌<◌, Bool, cond, List, [], ◌∷◌, ◌++◌, length, get_or, set, Option, Some, None, Contains}
use Rattle.std.proofs.Common.{IsPermutation, ap, ◌∙◌, arith}
use Rattle.huge_filler.proofs.Common.{cases_lt, get_or_default, get_or_past, sum_by-set, sum_by-append, sum_by-cons, at_number-there, IsOrder, Measures}
use Rattle.huge_filler.proofs.Common.{measures_at, Lists}
use Rattle.std.specs.List.{enumerate_from, sum_by}
use Rattle.std.proofs.lemmas.List.FromFn.{length-enumerate_from, get_or-enumerate_from}
use Rattle.std.proofs.lemmas.Option.{none-some}
use Rattle.sorted_list.proofs.Rows.{key_held, row_held, index_changed, index_more}

enumerate-set : {X : Type 0} (n : ℕ) (xs : List X) (i : ℕ) (y : X) → i < length xs → enumerate_from n (set xs i y) ≡ set (enumerate_from n xs) i (n + i, y)
enumerate-set n [] i y l = absurd (omega arith)
enumerate-set n (x ∷ xs) zero y l = let at : n ≡ n + 0 = omega arith in ap (λ k. (k, y) ∷ enumerate_from (n + 1) xs) at
enumerate-set n (x ∷ xs) (suc i) y l =
    ap (λ ps. (n, x) ∷ ps) (enumerate-set (n + 1) xs i y (omega arith) ∙ ap (λ k. set (enumerate_from (n + 1) xs) i (k, y)) (omega arith))

enumerate-push : {X : Type 0} (n : ℕ) (xs : List X) (y : X) → enumerate_from n (xs ++ y ∷ []) ≡ enumerate_from n xs ++ (n + length xs, y) ∷ []
enumerate-push n [] y = let at : n ≡ n + 0 = omega arith in ap (λ k. (k, y) ∷ []) at
enumerate-push n (x ∷ xs) y =
    ap (λ ps. (n, x) ∷ ps) (enumerate-push (n + 1) xs y ∙ ap (λ k. enumerate_from (n + 1) xs ++ (k, y) ∷ []) (omega arith))

-- where a hugepage stands
pub stands : (rows : List (Option Measures)) (h : ℕ) (its : Measures) → measures_at rows h ≡ Some its → (0 < h) × (h - 1 < length rows) × (get_or rows (h - 1) None ≡ Some its)
stands rows h its e = grind (arith, nat_tests, at_number-there, cases_lt, none-some, get_or_past)

module _ {K : Type 0} (key : ℕ → Option Measures → K) where
  -- a hugepage more, and one that measures something else
  pub listed_more : (rows : List (Option Measures)) (y : Option Measures) (keys keys' : List K) → Lists key rows keys → IsPermutation (key (1 + length rows) y ∷ keys) keys' → Lists key (rows ++ y ∷ []) keys'
  listed_more rows y keys keys' lists moved =
      index_more (λ (p : ℕ × Option Measures). key p.0 p.1) (enumerate_from 1 rows) (enumerate_from 1 (rows ++ y ∷ [])) keys keys' (key (1 + length rows) y) lists moved (λ test.
      grind (arith, nat_tests, enumerate-push, sum_by-append, sum_by-cons))

  pub listed_set : (rows : List (Option Measures)) (i : ℕ) (y : Option Measures) (keys keys' : List K) → i < length rows → Lists key rows keys → IsPermutation (key (1 + i) y ∷ keys) (key (1 + i) (get_or rows i None) ∷ keys') → Lists key (set rows i y) keys'
  listed_set rows i y keys keys' inside lists moved =
      index_changed (λ (p : ℕ × Option Measures). key p.0 p.1) (enumerate_from 1 rows) (enumerate_from 1 (set rows i y)) keys keys' (key (1 + i) (get_or rows i None)) (key (1 + i) y) lists moved (λ test.
      let f : ℕ × Option Measures → ℕ = λ p. cond (test (key p.0 p.1)) 1 0 in
      let changed = sum_by-set f (enumerate_from 1 rows) i (1 + i, y) (0, None) (omega (arith, length-enumerate_from 1 rows)) in
      omega (arith, changed, ap f (get_or-enumerate_from 1 rows i (0, None) inside), ap (sum_by f) (enumerate-set 1 rows i y inside)))

  module _ (before : K → K → Bool) (total : IsOrder K before) (rows : List (Option Measures)) (keys : List K) (lists : Lists key rows keys) where
    -- the key of each place is held
    pub key_at : (i : ℕ) → i < length rows → Contains keys (key (1 + i) (get_or rows i None))
    key_at i inside =
        let o : Option Measures = get_or rows i None in
        key_held before total (λ (p : ℕ × Option Measures). key p.0 p.1) (enumerate_from 1 rows) keys (1 + i, o) lists (
          i,
          omega (arith, length-enumerate_from 1 rows),
          get_or-enumerate_from 1 rows i (1 + i, o) inside ∙ ap (λ (x : Option Measures). let p : ℕ × Option Measures = (1 + i, x) in p) (get_or_default rows i o None inside),
        )

    pub key_of_it : (h : ℕ) (its : Measures) → measures_at rows h ≡ Some its → Contains keys (key h (Some its))
    key_of_it h its e = grind (arith, stands rows h its e, key_at (h - 1))

    -- and each key is that of a place
    pub place_of : (k : K) → Contains keys k → (i : ℕ) × (i < length rows) × (key (1 + i) (get_or rows i None) ≡ k)
    place_of k held =
        let at = row_held before total (λ (p : ℕ × Option Measures). key p.0 p.1) (enumerate_from 1 rows) keys k lists held in
        grind (arith, nat_tests, length-enumerate_from, get_or-enumerate_from, get_or_default)
