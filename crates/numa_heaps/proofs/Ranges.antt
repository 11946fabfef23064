-- Folds and sums over the numbers below one, with one number more.
use Rattle.std.proofs.Common.{◌≡◌, ℕ, zero, suc, ◌+◌, ◌<◌, [], ◌∷◌, ◌++◌, fold, refl, ap, ◌∙◌, arith}
use Rattle.std.specs.Prelude.{sum_by}
use Rattle.std.specs.List.{range_with_len}
use Rattle.std.proofs.lemmas.List.{map-id}
use Rattle.std.proofs.lemmas.List.FromFn.{map-range_with_len_more}
use Rattle.std.proofs.lemmas.List.Sums.{fold-append, sum_by-append, sum_by-cons}

range_more : (n : ℕ) → range_with_len 0 (n + 1) ≡ range_with_len 0 n ++ n ∷ []
range_more n = simp map-id at (map-range_with_len_more (λ x. x) 0 n n (omega arith))

pub fold_more : {B : Type 0} (f : B → ℕ → B) (a : B) (n : ℕ) → fold f a (range_with_len 0 (n + 1)) ≡ f (fold f a (range_with_len 0 n)) n
fold_more f a n = rw (range_more, fold-append)

pub fold_next : {B : Type 0} (f : B → ℕ → B) (a : B) (n : ℕ) → fold f a (range_with_len 0 (suc n)) ≡ f (fold f a (range_with_len 0 n)) n
fold_next f a n = let next : suc n ≡ n + 1 = omega arith in ap (λ m. fold f a (range_with_len 0 m)) next ∙ fold_more f a n

-- and folds by functions that agree below n
pub fold_below : {B : Type 0} (f g : B → ℕ → B) (a : B) (n : ℕ) → ((b : B) (t : ℕ) → t < n → f b t ≡ g b t)
    → fold f a (range_with_len 0 n) ≡ fold g a (range_with_len 0 n)
fold_below f g a zero same = refl
fold_below {B} f g a (suc n) same =
    cc (fold_next f a n, fold_next g a n, fold_below f g a n (λ b t below. same b t (omega arith)), same (fold f a (range_with_len 0 n)) n (omega arith))

pub sum_more : (f : ℕ → ℕ) (n : ℕ) → sum_by f (range_with_len 0 (n + 1)) ≡ sum_by f (range_with_len 0 n) + f n
sum_more f n = omega (arith, ap (sum_by f) (range_more n), sum_by-append f (range_with_len 0 n) (n ∷ []), sum_by-cons f n [])

pub sum_next : (f : ℕ → ℕ) (n : ℕ) → sum_by f (range_with_len 0 (suc n)) ≡ sum_by f (range_with_len 0 n) + f n
sum_next f n = let next : suc n ≡ n + 1 = omega arith in ap (λ m. sum_by f (range_with_len 0 m)) next ∙ sum_more f n
