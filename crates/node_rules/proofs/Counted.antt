-- Places of a list's elements among those that a test keeps, and the first elements of a list.
use Rattle.std.proofs.Common.{◌≡◌, ℕ, zero, suc, ◌+◌, Bool, cond, eqb, List, [], ◌∷◌, ◌++◌, map, take, filter, Some, refl, sym, ap, arith}
use Rattle.std.specs.Prelude.{slice_get, count_by}
use Rattle.std.proofs.lemmas.Bool.{eq-eqb}
use Rattle.std.proofs.lemmas.List.Sums.{sum_by-cons, sum_by-append}
use Rattle.std.proofs.lemmas.Bool.Decides.{nat_tests}
use Rattle.node_rules.proofs.Splits.{IsSplit, filter_split}

pub count_cons : (k j : ℕ) (js : List ℕ) → count_by (λ i. eqb i k) (j ∷ js) ≡ cond (eqb j k) 1 0 + count_by (λ i. eqb i k) js
count_cons k j js = sum_by-cons (λ i. cond (eqb i k) 1 0) j js

pub count_push : (k j : ℕ) (js : List ℕ) → count_by (λ i. eqb i k) (js ++ j ∷ []) ≡ count_by (λ i. eqb i k) js + cond (eqb j k) 1 0
count_push k j js = omega (arith, sum_by-append (λ i. cond (eqb i k) 1 0) js (j ∷ []), count_cons k j [])

-- one element more
pub take_next : {X : Type 0} (xs : List X) (n : ℕ) (x : X) → slice_get xs n ≡ Some x → take (n + 1) xs ≡ take n xs ++ x ∷ []
take_next [] n x at = absurd (cc)
take_next (y ∷ ys) zero x at = let e : y ≡ x = cc in ap (λ z. z ∷ []) e
take_next {X} (y ∷ ys) (suc n) x at = grind (arith, take_next ys n x)

-- the element at a place, in what a test keeps: as many are kept before it as are before it
pub kept_at : {X : Type 0} (f : X → ℕ) (k : ℕ) (xs : List X) (n : ℕ) → slice_get (map f xs) n ≡ Some k
    → slice_get (filter (λ (x : X). eqb (f x) k) xs) (count_by (λ j. eqb j k) (take n (map f xs))) ≡ slice_get xs n
kept_at f k [] n at = absurd (cc)
kept_at f k (x ∷ xs) zero at = let e : f x ≡ k = cc in rw (eq-eqb (f x) k e) refl
kept_at {X} f k (x ∷ xs) (suc n) at = grind (arith, nat_tests, kept_at f k xs n, count_cons k (f x) (take n (map f xs)), f x)

-- what stands at a place splits the list
pub record IsAt {X : Type 0} (xs : List X) (x : X) : Type 0 where
  pub before : List X
  pub behind : List X
  pub is : before ++ x ∷ behind ≡ xs

pub at_place : {X : Type 0} (xs : List X) (n : ℕ) (x : X) → slice_get xs n ≡ Some x → IsAt xs x
at_place [] n x at = absurd (cc)
at_place (y ∷ ys) zero x at = let e : y ≡ x = cc in record { before = []; behind = ys; is = ap (λ z. z ∷ ys) (sym e) }
at_place {X} (y ∷ ys) (suc n) x at = let s = at_place ys n x at in record { before = y ∷ s.before; behind = s.behind; is = ap (λ (zs : List X). y ∷ zs) s.is }

-- one that a test keeps stands in the list
pub kept_there : {X : Type 0} (p : X → Bool) (xs : List X) (n : ℕ) (x : X) → slice_get (filter p xs) n ≡ Some x → (s : List X) × IsSplit p xs s x
kept_there p xs n x at = let s = at_place (filter p xs) n x at in (s.before, filter_split p xs s.before x s.behind s.is)
