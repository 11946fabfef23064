-- When a best range of a row is there, and where it lies.
use Rattle.std.proofs.Common.{◌≡◌, ℕ, ◌+◌, ◌<◌, ◌≤◌, Bool, List, [], ◌∷◌, length, drop, fold, max, Option, Some, None, refl, inl, inr, arith, ◌⊎◌, not}
use Rattle.std.proofs.lemmas.Bool.Decides.{nat_tests}
use Rattle.range_bits.proofs.Common.{length-drop, prefix_len-le-length, free_from, longest, best}
use Rattle.range_bits.proofs.RangeLemmas.{longest-at, best-at, best-some}

pub fold_max : (a : ℕ) (xs : List ℕ) → fold max a xs ≡ max a (fold max 0 xs)
fold_max a [] = omega arith
fold_max a (x ∷ xs) =
    let left : fold max (max a x) xs ≡ max (max a x) (fold max 0 xs) = fold_max (max a x) xs in
    let right : fold max (max 0 x) xs ≡ max (max 0 x) (fold max 0 xs) = fold_max (max 0 x) xs in
    omega arith

-- a free range ends in the row
pub free_is_inside : (row : List Bool) (place : ℕ) → place ≤ length row → place + free_from row place ≤ length row
free_is_inside row place inside = omega (arith, prefix_len-le-length not (drop place row), length-drop place row)

-- a best range is inside the row, and long enough
pub best_is_fit : (row : List Bool) (n s : ℕ) → best row n ≡ Some s → (s < length row) × (n ≤ free_from row s)
best_is_fit row n s e = best-at row n s e

-- where there is no best range, the longest is too short
pub longest_is_short : (row : List Bool) (n : ℕ) → 0 < n → best row n ≡ None → longest row < n
longest_is_short row n pos none = grind (arith, nat_tests, longest-at row n pos, best-some row n)

pub some_or_none : (o : Option ℕ) → (o ≡ None) ⊎ ((s : ℕ) × (o ≡ Some s))
some_or_none None = inl refl
some_or_none (Some s) = inr (s, refl)

-- where the longest range is long enough, there is a best one
pub best_there : (row : List Bool) (n : ℕ) → 0 < n → n ≤ longest row → (s : ℕ) × (best row n ≡ Some s)
best_there row n pos long = elim (some_or_none (best row n)) [ inl none ↦ (let short = longest_is_short row n pos none in absurd (omega arith)) | inr found ↦ found ]
