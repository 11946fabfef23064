-- The longest range is as long as each free one.
use Rattle.std.proofs.Common.{◌≡◌, ℕ, zero, suc, ◌+◌, ◌<◌, ◌≤◌, Bool, true, false, not, List, [], ◌∷◌, length, get_or, drop, map, fold, max, ◌∙◌, arith}
use Rattle.std.specs.List.{prefix_len}
use Rattle.std.proofs.lemmas.Bool.{not_from_false}
use Rattle.std.proofs.lemmas.List.{length-drop, get_or-drop}
use Rattle.std.proofs.lemmas.List.FromFn.{get_or-map-range_with_len, length-map-range_with_len}
use Rattle.range_bits.specs.Ranges.{free_from, places, longest}

fold_max-from : (a : ℕ) (xs : List ℕ) → a ≤ fold max a xs
fold_max-from a [] = omega arith
fold_max-from a (x ∷ xs) = let rest = fold_max-from (max a x) xs in omega arith

fold_max-each : (a : ℕ) (xs : List ℕ) (k : ℕ) → k < length xs → get_or xs k 0 ≤ fold max a xs
fold_max-each a [] k h = absurd (omega arith)
fold_max-each a (x ∷ xs) zero h = let rest = fold_max-from (max a x) xs in omega arith
fold_max-each a (x ∷ xs) (suc k) h = fold_max-each (max a x) xs k (omega arith)

pub prefix_long : {X : Type 0} (p : X → Bool) (xs : List X) (m : ℕ) (d : X) → m ≤ length xs → ((k : ℕ) → k < m → p (get_or xs k d) ≡ true) → m ≤ prefix_len p xs
prefix_long p xs zero d h pass = omega arith
prefix_long p [] (suc m) d h pass = absurd (omega arith)
prefix_long p (x ∷ xs) (suc m) d h pass =
    let rest = prefix_long p xs m d (omega arith) (λ k l. pass (suc k) (omega arith)) in
    let first : p x ≡ true = pass 0 (omega arith) in
    rw first (omega arith)

pub longest-le : (row : List Bool) (s m : ℕ) → 0 < m → s + m ≤ length row → ((k : ℕ) → k < m → get_or row (s + k) true ≡ false) → m ≤ longest row
longest-le row s m some inside free =
    let len = length-drop s row in
    let far : m ≤ free_from row s = prefix_long not (drop s row) m true (omega arith) (λ k l. not_from_false _ (get_or-drop s row k true ∙ free k l)) in
    let here : get_or (map (free_from row) (places row)) s 0 ≡ free_from row s = get_or-map-range_with_len (free_from row) 0 (length row) s s 0 (omega arith) (omega arith) in
    grind (arith, length-map-range_with_len (free_from row) 0 (length row), fold_max-each 0 (map (free_from row) (places row)) s)
