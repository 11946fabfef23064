-- A list whose end moves to another list, last first.
use Rattle.std.proofs.Common.{◌≡◌, ℕ, ◌+◌, Bool, List, [], ◌∷◌, ◌++◌, take, drop, reverse, count_by, cond, refl, ◌∙◌, ap, arith}
use Rattle.std.specs.List.{sum_by}
use Rattle.std.proofs.lemmas.List.Sums.{sum_by-cons, sum_by-append, sum_by-take-drop}
use Rattle.std.proofs.lemmas.Grind.{reverse_onto}

-- turning a list round changes no sum
pub sum_by-reverse : {X : Type 0} (f : X → ℕ) (xs : List X) → sum_by f (reverse xs) ≡ sum_by f xs
sum_by-reverse f [] = refl
sum_by-reverse f (x ∷ xs) =
    let turned : reverse (x ∷ xs) ≡ reverse xs ++ x ∷ [] = reverse_onto xs x [] in
    let sums : sum_by f (reverse (x ∷ xs)) ≡ sum_by f (reverse xs) + sum_by f (x ∷ []) = ap (sum_by f) turned ∙ sum_by-append f (reverse xs) (x ∷ []) in
    omega (arith, sums, sum_by-reverse f xs, sum_by-cons f x xs, sum_by-cons f x [])

-- what moves from the end of one list to another changes no sum over both
pub sum_by-moves : {X : Type 0} (f : X → ℕ) (out xs : List X) (i : ℕ) → sum_by f (take i xs) + sum_by f (out ++ reverse (drop i xs)) ≡ sum_by f xs + sum_by f out
sum_by-moves f out xs i =
    omega (arith, sum_by-append f out (reverse (drop i xs)), sum_by-reverse f (drop i xs), sum_by-take-drop f xs i)

pub count_by-moves : {X : Type 0} (test : X → Bool) (kept came out xs : List X) (i : ℕ) → kept ≡ take i xs
    → came ≡ out ++ reverse (drop i xs) → count_by test kept + count_by test came ≡ count_by test xs + count_by test out
count_by-moves test kept came out xs i stays goes =
    ap (λ ys. count_by test ys + count_by test came) stays ∙ ap (λ ys. count_by test (take i xs) + count_by test ys) goes ∙ sum_by-moves (λ x. cond (test x) 1 0) out xs i
