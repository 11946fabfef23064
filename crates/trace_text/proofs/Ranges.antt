-- Parts of a list, by their places.
use Rattle.std.proofs.Common.{◌≡◌, ℕ, ◌+◌, ◌-◌, ◌<◌, ◌≤◌, List, [], ◌∷◌, ◌++◌, length, get_or, take, drop, arith, ap, ◌∙◌}
use Rattle.std.proofs.lemmas.List.{drop-take, drop-drop}
use Rattle.std.proofs.lemmas.List.Edits.{between_none, between_more}
use Rattle.std.specs.List.{slice_range}

-- what stands behind the first m elements of a part, and these elements
pub drop-slice_range : (xs : List ℕ) (i j m : ℕ) → i + m ≤ j → drop m (slice_range xs i j) ≡ slice_range xs (i + m) j
drop-slice_range xs i j m h = grind (arith, drop-take m (j - (i + m)) (drop i xs), drop-drop m i xs)

pub take-drop : (xs : List ℕ) (i m : ℕ) → take m (drop i xs) ≡ slice_range xs i (i + m)
take-drop xs i m = grind (arith)

-- parts of one element and of two
pub slice_range_one : (xs : List ℕ) (i j : ℕ) → j ≡ i + 1 → i < length xs → slice_range xs i j ≡ get_or xs i 0 ∷ []
slice_range_one xs i j e l =
    ap (slice_range xs i) e ∙ between_more xs i i 0 (omega arith) l ∙ ap (λ (s : List ℕ). s ++ get_or xs i 0 ∷ []) (between_none xs i)

pub slice_range_two : (xs : List ℕ) (i j k : ℕ) → j ≡ i + 1 → k ≡ j + 1 → j < length xs → slice_range xs i k ≡ get_or xs i 0 ∷ get_or xs j 0 ∷ []
slice_range_two xs i j k e f l =
    ap (slice_range xs i) f ∙ between_more xs i j 0 (omega arith) l ∙ ap (λ (s : List ℕ). s ++ get_or xs j 0 ∷ []) (slice_range_one xs i j e (omega arith))
