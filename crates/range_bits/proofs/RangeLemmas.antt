-- Free ranges of a row: bounds on the longest, and where the best one begins.
use Rattle.range_bits.proofs.Common.{common_steps, nat_tests, range_with_len, cases_Bool, and_parts, not-true, not_from_false, leb-true}
use Rattle.range_bits.proofs.Common.{or_right, cases_lt, length-drop, get_or-drop, get_or-map, nil_from_length, length-map, prefix_len_passes}
use Rattle.range_bits.proofs.Common.{prefix_len-le-length, prefix_len-drop_yes, length-filter, get_or-le-sum_by, All-head, All-tail, All-from_get_or}
use Rattle.range_bits.proofs.Common.{filter_passes, free_from, places, longest, begins_range, first_least, best, count_none}
use Rattle.std.proofs.Common.{◌≡◌, ℕ, zero, suc, ◌+◌, ◌<◌, ◌≤◌, ◌⊎◌, Bool, true, false, not, ◌&&◌, cond, nat_lt, nat_le, List, [], ◌∷◌, length, get_or, drop, map}
use Rattle.std.specs.Option.{option_map_or}
use Rattle.std.proofs.Common.{filter, fold, max, Option, Some, None, IfSome, All, refl, ap, subst, ◌∙◌, inl, inr, arith}
use Rattle.std.proofs.lemmas.List.FromFn.{length-range_with_len, get_or-range_with_len}

-- the numbers of a range lie in it
pub range-within : (a n : ℕ) → All (λ h. (a ≤ h) × (h < a + n)) (range_with_len a n)
range-within a n = All-from_get_or (λ h. (a ≤ h) × (h < a + n)) (range_with_len a n) 0 (λ i h. let e = length-range_with_len a n in let at = get_or-range_with_len a n i 0 (omega arith) in rw at (omega arith, omega arith))

-- a free range from a place on fits in the row, and its places are free
pub free_fits : (row : List Bool) (place n : ℕ) → 0 < n → n ≤ free_from row place → place + n ≤ length row
free_fits row place n some h = omega (arith, prefix_len-le-length not (drop place row), length-drop place row)

pub free_at : (row : List Bool) (place n k : ℕ) (d : Bool) → n ≤ free_from row place → k < n → get_or row (place + k) d ≡ false
free_at row place n k d h l = grind (arith, nat_tests, prefix_len_passes, not-true, get_or-drop)

-- no range is longer than the row
fold_max-le : (m a : ℕ) (xs : List ℕ) → a ≤ m → All (λ x. x ≤ m) xs → fold max a xs ≤ m
fold_max-le m a [] h k = h
fold_max-le m a (x ∷ xs) h k =
    let head : x ≤ m = All-head (λ y. y ≤ m) x xs k in
    fold_max-le m (max a x) xs (omega arith) (All-tail (λ y. y ≤ m) x xs k)

pub longest-le-length : (row : List Bool) → longest row ≤ length row
longest-le-length row =
    fold_max-le (length row) 0 (map (free_from row) (places row)) (omega arith)
    (All-from_get_or (λ x. x ≤ length row) (map (free_from row) (places row)) 0
    (λ i h. let e = get_or-map (free_from row) (places row) i 0 0 (rw length-map at h) in
    rw e (omega (arith, prefix_len-le-length not (drop (get_or (places row) i 0) row), length-drop (get_or (places row) i 0) row))))

-- some place has a free range as long as the longest
fold_max-at : (n a : ℕ) (xs : List ℕ) → n ≤ fold max a xs → (n ≤ a) ⊎ ((k : ℕ) × (k < length xs) × (n ≤ get_or xs k 0))
fold_max-at n a [] h = inl h
fold_max-at n a (x ∷ xs) h =
    elim (fold_max-at n (max a x) xs h) [
      | inl l ↦ grind (arith, nat_tests, cases_lt)
      | inr r ↦ inr (suc r.0, omega (arith, r.1), r.2)
    ]

pub longest-at : (row : List Bool) (n : ℕ) → 0 < n → n ≤ longest row → (place : ℕ) × (place < length row) × (n ≤ free_from row place)
longest-at row n some h =
    elim (fold_max-at n 0 (map (free_from row) (places row)) h) [
      | inl none ↦ absurd (omega arith)
      | inr r ↦
          let short : r.0 < length (places row) = rw length-map at r.1 in
          let e = get_or-map (free_from row) (places row) r.0 0 0 short in
          grind (arith, nat_tests, length-range_with_len, get_or-range_with_len)
    ]

start_after : (row : List Bool) (place : ℕ) → get_or row (suc place) true ≡ false → get_or row place true ≡ true → begins_range row (suc place) ≡ true
start_after row place free before = grind (arith, nat_tests, or_right)

-- a maximal free range begins at or before each free place, and is as long
pub start_of : (row : List Bool) (n place : ℕ) → place < length row → 0 < n → n ≤ free_from row place → (s : ℕ) × (s < length row) × (n ≤ free_from row s) × (begins_range row s ≡ true)
start_of row n zero h some far = (0, h, far, rw (free_at row 0 n 0 true far some) refl)
start_of row n (suc place) h some far =
    elim (cases_Bool (get_or row place true)) [
      | inl t ↦ (suc place, h, far, start_after row place (let at = free_at row (suc place) n 0 true far some in let e : suc place + 0 ≡ suc place = omega arith in rw e at at) t)
      | inr f ↦
          let more = prefix_len-drop_yes not row place true (omega arith) (not_from_false _ f) in
          let same : place + 1 ≡ suc place = omega arith in
          let more' : free_from row place ≡ 1 + free_from row (suc place) = rw same at more in
          start_of row n place (omega arith) some (omega arith)
    ]

one_of : {X : Type 0} (P : X → Type 0) (less : X → X → Bool) (x : X) (o : Option X) → P x → IfSome o P → P (option_map_or (λ y. cond (less y x) y x) o x)
one_of P less x o h k = grind (arith, nat_tests)

two_agree : {X : Type 0} (P : X → Type 0) (less other : X → X → Bool) (x : X) (o : Option X) → ((a b : X) → P a → P b → less a b ≡ other a b) → P x → IfSome o P
    → option_map_or (λ y. cond (less y x) y x) o x ≡ option_map_or (λ y. cond (other y x) y x) o x
two_agree P less other x o agree h k = grind (arith, nat_tests)

-- the first of a list is one of it, and there is one where the list has an element
pub first_least-all : {X : Type 0} (P : X → Type 0) (less : X → X → Bool) (xs : List X) → All P xs → IfSome (first_least less xs) P
first_least-all P less [] h = tt
first_least-all P less (x ∷ xs) h = one_of P less x (first_least less xs) (All-head P x xs h) (first_least-all P less xs (All-tail P x xs h))

pub first_least-none : {X : Type 0} (less : X → X → Bool) (xs : List X) → first_least less xs ≡ None → xs ≡ []
first_least-none less [] h = refl
first_least-none less (x ∷ xs) h = cc

-- two orders that agree on the elements of a list have the same first
pub first_least-agree : {X : Type 0} (P : X → Type 0) (less other : X → X → Bool) (xs : List X) → ((a b : X) → P a → P b → less a b ≡ other a b) → All P xs → first_least less xs ≡ first_least other xs
first_least-agree P less other [] agree h = refl
first_least-agree P less other (x ∷ xs) agree h =
    let rest = first_least-agree P less other xs agree (All-tail P x xs h) in
    rw rest (ap Some (two_agree P less other x (first_least other xs) agree (All-head P x xs h) (first_least-all P other xs (All-tail P x xs h))))

-- two tests that agree on the elements of a list keep the same ones
pub filter-agree : {X : Type 0} (p q : X → Bool) (xs : List X) → All (λ x. p x ≡ q x) xs → filter p xs ≡ filter q xs
filter-agree p q [] h = refl
filter-agree p q (x ∷ xs) h =
    rw (All-head (λ y. p y ≡ q y) x xs h, filter-agree p q xs (All-tail (λ y. p y ≡ q y) x xs h))

pub filter-none : {X : Type 0} (p : X → Bool) (xs : List X) → All (λ x. p x ≡ false) xs → filter p xs ≡ []
filter-none p xs h = nil_from_length (filter p xs) (length-filter p xs ∙ count_none p xs h)

pub filter-some : {X : Type 0} (p : X → Bool) (xs : List X) (k : ℕ) (d : X) → k < length xs → p (get_or xs k d) ≡ true → filter p xs ≡ [] → ⊥
filter-some p xs k d h pass none = grind (arith, nat_tests, common_steps, length-filter, get_or-le-sum_by)

-- whether a place begins a maximal free range of at least n places
abbrev pub fits_at : List Bool → ℕ → ℕ → Bool
fits_at row n place = begins_range row place && nat_le n (free_from row place)

-- where the best range begins
pub best-at : (row : List Bool) (n s : ℕ) → best row n ≡ Some s → (s < length row) × (n ≤ free_from row s)
best-at row n s h =
    let P : ℕ → Type 0 = λ place. (place < length row) × (n ≤ free_from row place) in
    let all = first_least-all P (λ a b. nat_lt (free_from row a) (free_from row b)) (filter (fits_at row n) (places row))
    (grind (arith, nat_tests, common_steps, filter_passes, range-within, leb-true, and_parts)) in
    subst (λ o. IfSome o P) h all

pub best-some : (row : List Bool) (n place : ℕ) → place < length row → 0 < n → n ≤ free_from row place → best row n ≡ None → ⊥
best-some row n place h some far none =
    let s = start_of row n place h some far in
    grind (
      arith,
      nat_tests,
      first_least-none (λ a b. nat_lt (free_from row a) (free_from row b)) (filter (fits_at row n) (places row)) none,
      length-range_with_len 0 (length row),
      get_or-range_with_len 0 (length row) s.0 0 s.1,
      filter-some (fits_at row n) (places row) s.0 0,
    )
