-- Threads numbered from 0.
use Rattle.std.proofs.Common.{◌≡◌, ℕ, zero, suc, ◌+◌, ◌<◌, List, map, add-one, [], ◌∷◌, ◌++◌, length, Some, refl, ap, ◌∙◌, subst, ⊎_elim, arith}
use Rattle.std.specs.List.{slice_get}
use Rattle.std.proofs.lemmas.List.{map-append}
use Rattle.tc_model.specs.Rises.{Has}
use Rattle.tc_model.proofs.Members.{has_none, has_end}
use Rattle.part_lock.specs.Joins.{numbers}

pub numbers_below : (n t : ℕ) → Has (numbers n) t → t < n
numbers_below zero t h = absurd (has_none t h)
numbers_below (suc n) t h = ⊎_elim (λ (o : Has (numbers n) t). let less = numbers_below n t o in omega arith) (λ (e : n ≡ t). omega arith) (has_end (numbers n) n t h)

pub number_new : (n : ℕ) → Has (numbers n) n → ⊥
number_new n h = absurd (let less = numbers_below n n h in omega arith)

-- what stands after so many items
pub at_seam : {A : Type 0} (xs ys : List A) (y : A) (n : ℕ) → length xs ≡ n → slice_get (xs ++ y ∷ ys) n ≡ Some y
at_seam [] ys y n e = subst (λ (k : ℕ). slice_get (y ∷ ys) k ≡ Some y) e refl
at_seam (x ∷ xs) ys y zero e = absurd (omega arith)
at_seam (x ∷ xs) ys y (suc n) e = at_seam xs ys y n (omega arith)

pub numbers_more : {A : Type 0} (f : A → ℕ) (xs xs' : List A) (x : A) (n : ℕ) → xs' ≡ xs ++ x ∷ [] → f x ≡ n → map f xs ≡ numbers n → map f xs' ≡ numbers (n + 1)
numbers_more f xs xs' x n longer same is = rw add-one (ap (map f) longer ∙ (map-append f xs (x ∷ []) ∙ (λ j. is j ++ same j ∷ [])))
