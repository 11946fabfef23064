-- A release answers how many pages it unbacked, and the filler's order is a walk by candidates.
use Rattle.std.proofs.Common.{◌≡◌, ℕ, ◌+◌, ◌*◌, ◌%◌, ◌<◌, ◌≤◌, Bool, true, false, not, ◌&&◌, cond, eqb, List, [], ◌∷◌, length, get_or, filter, map}
use Rattle.std.proofs.Common.{count_by, sum_by, All, refl, sym, ap, subst, ◌∙◌, inl, inr, arith}
use Rattle.std.specs.List.{range_with_len, enumerate_from, list_all}
use Rattle.std.proofs.lemmas.Bool.{cases_Bool, and_parts, eq-eqb, ne_eqb, false≢true}
use Rattle.std.proofs.lemmas.List.{same_lists, get_or_default, length-map, get_or-map}
use Rattle.std.proofs.lemmas.List.FromFn.{length-map-range_with_len, get_or-map-range_with_len, length-enumerate_from, get_or-enumerate_from}
use Rattle.std.proofs.lemmas.List.Elements.{All-head, All-tail}
use Rattle.std.proofs.lemmas.List.Sums.{sum_by-cons, count_by-le-length}
use Rattle.std.proofs.lemmas.Bool.Decides.{nat_tests}
use Rattle.heap_rules.specs.Heap.{Heap, Hugepage, hugepage, numbers, untouched, each, is_used, is_filler, backs, pages_of, backed_count, backed_pages}
use Rattle.heap_rules.specs.Numbered.{at_number}
use Rattle.heap_rules.specs.Settle.{unbacked}
use Rattle.heap_rules.specs.GiveUp.{gives_whole, SpareRow, gives_spare}
use Rattle.heap_rules.specs.Release.{only_used, whole_given, spare_row, spare_given}
use Rattle.range_bits.specs.Ranges.{used_count}
use Rattle.range_bits.proofs.RangeLemmas.{range-within}
use Rattle.tc_units.proofs.Counts.{one-true}
use Rattle.heap_rules.proofs.Places.{at, at-next, spare_rows}

-- a sum over the elements that pass
pub sum-filter : {X : Type 0} (f : X → ℕ) (p : X → Bool) (xs : List X) → sum_by f (filter p xs) ≡ sum_by (λ x. cond (p x) (f x) 0) xs
sum-filter f p [] = refl
sum-filter f p (x ∷ xs) = grind (arith, sum-filter f p xs, sum_by-cons f x (filter p xs), sum_by-cons (λ y. cond (p y) (f y) 0) x xs, p x, f x)

-- sums that agree place by place, as two that add up to a third
pub sum-adds : {X : Type 0} (f g k : X → ℕ) (xs : List X) → All (λ x. f x + g x ≡ k x) xs → sum_by f xs + sum_by g xs ≡ sum_by k xs
sum-adds f g k [] h = refl
sum-adds f g k (x ∷ xs) h = grind (arith, sum-adds f g k xs (All-tail (λ y. f y + g y ≡ k y) x xs h), All-head, All-tail, sum_by-cons)

pub sum-map' : {X Y : Type 0} (f : Y → ℕ) (v : X → Y) (xs : List X) → sum_by f (map v xs) ≡ sum_by (λ x. f (v x)) xs
sum-map' f v [] = refl
sum-map' f v (x ∷ xs) = let a = sum_by-cons f (v x) (map v xs) in let b = sum_by-cons (λ y. f (v y)) x xs in let rest = sum-map' f v xs in omega arith

-- a list is what it has at each number from 1 on
by_numbers : (f : ℕ → Hugepage → Hugepage) (xs : List Hugepage) → each f xs ≡ map (λ h. f h (at xs h)) (range_with_len 1 (length xs))
by_numbers f xs =
    let g : ℕ → Hugepage = λ h. f h (at xs h) in
    let len = length-enumerate_from 1 xs in
    let len' = length-map (enumerate_from 1 xs) (λ (p : ℕ × Hugepage). f p.0 p.1) in
    let count = length-map-range_with_len g 1 (length xs) in
    same_lists _ _ (len' ∙ len ∙ sym count) (λ k d l.
    let short : k < length xs = omega arith in
    get_or-map (λ (p : ℕ × Hugepage). f p.0 p.1) (enumerate_from 1 xs) k (0, untouched) d (omega arith)
    ∙ ap (λ (p : ℕ × Hugepage). f p.0 p.1) (get_or-enumerate_from 1 xs k (0, untouched) short) ∙ ap (f (1 + k)) (sym (at-next xs k))
    ∙ sym (get_or-map-range_with_len g 1 (length xs) k (1 + k) d short refl))

pub self : (xs : List Hugepage) → xs ≡ map (at xs) (range_with_len 1 (length xs))
self xs = grind (arith, length-map-range_with_len, same_lists, get_or_default, at-next, get_or-map-range_with_len)

-- the backed pages of a hugepage, over the numbers of its pages
pub own_backs : (h : ℕ) (x : Hugepage) → length x.backed ≡ 256 → x.backed ≡ map (backs x) (pages_of h)
own_backs h x e =
    let count = length-map-range_with_len (backs x) (256 * h) 256 in
    same_lists _ _ (e ∙ sym count) (λ k d l.
    let short : k < 256 = omega (arith, e) in
    let place : k ≡ (256 * h + k) % 256 = omega (arith, short) in
    get_or_default x.backed k d false l ∙ ap (λ i. get_or x.backed i false) place ∙ sym (get_or-map-range_with_len (backs x) (256 * h) 256 k (256 * h + k) d short refl))

plus_none : (n : ℕ) → n + 0 ≡ n
plus_none n = omega arith

one_more : (a b : Bool) → cond (a && b) 1 0 + cond (a && not b) 1 0 ≡ cond a 1 0
one_more true true = refl
one_more a b = refl

pub both : (backed : List Bool) (used : ℕ → Bool) (ps : List ℕ) (b : ℕ → Bool) → backed ≡ map b ps
    → count_by (λ x. x) (map (λ p. b p && used p) ps) + count_by (λ p. b p && not (used p)) ps ≡ count_by (λ x. x) backed
both backed used ps b e =
    let one = sum-map' (λ x. cond x 1 0) (λ p. b p && used p) ps in
    let two = sum-map' (λ x. cond x 1 0) b ps in
    let all = sum-adds (λ p. cond (b p && used p) 1 0) (λ p. cond (b p && not (used p)) 1 0) (λ p. cond (b p) 1 0) ps (λ k d l. one_more (b (get_or ps k d)) (used (get_or ps k d))) in
    rw (e, one, two) all

-- A change of each hugepage, of which each gives some of its backed pages up.
pub change_counts : (heap : Heap) (change : ℕ → Hugepage → Hugepage) (gives : ℕ → ℕ)
    → ((h : ℕ) → 1 ≤ h → h < 1 + length heap.hugepages → backed_count (change h (hugepage heap h)) + gives h ≡ backed_count (hugepage heap h))
    → sum_by backed_count (each change heap.hugepages) + sum_by gives (numbers heap) ≡ backed_pages heap
change_counts heap change gives gave =
    let here = ap (sum_by backed_count) (by_numbers change heap.hugepages) ∙ sum-map' backed_count (λ h. change h (hugepage heap h)) (numbers heap) in
    let before = ap (sum_by backed_count) (self heap.hugepages) ∙ sum-map' backed_count (hugepage heap) (numbers heap) in
    let all = sum-adds (λ h. backed_count (change h (hugepage heap h))) gives (λ h. backed_count (hugepage heap h)) (numbers heap)
    (λ k d l. let inside = range-within 1 (length heap.hugepages) k d l in gave (get_or (numbers heap) k d) inside.0 inside.1) in
    rw (here, before) all

pub same_sums : {X : Type 0} (f g : X → ℕ) (xs : List X) → All (λ x. f x ≡ g x) xs → sum_by f xs ≡ sum_by g xs
same_sums f g [] h = refl
same_sums f g (x ∷ xs) h = grind (arith, same_sums f g xs (All-tail (λ y. f y ≡ g y) x xs h), All-head, sum_by-cons, All-tail)

-- The pages of each step of a release.
pub scaled : {X : Type 0} (p : X → Bool) (xs : List X) → sum_by (λ x. cond (p x) 256 0) xs ≡ 256 * count_by p xs
scaled p [] = refl
scaled p (x ∷ xs) = grind (arith, scaled p xs, sum_by-cons (λ y. cond (p y) 256 0) x xs, sum_by-cons (λ y. cond (p y) 1 0) x xs, p x)

pub all_counted : (xs : List Bool) → list_all (λ b. b) xs ≡ true → count_by (λ b. b) xs ≡ length xs
all_counted [] e = refl
all_counted (x ∷ xs) e = grind (arith, nat_tests, all_counted xs, sum_by-cons (λ b. cond b 1 0) x xs, one-true x)

nested : (f : SpareRow → ℕ) (p : SpareRow → Bool) (v : ℕ → SpareRow) (q : ℕ → Bool) (xs : List ℕ)
    → sum_by f (filter p (map v (filter q xs))) ≡ sum_by (λ x. cond (q x && p (v x)) (f (v x)) 0) xs
nested f p v q [] = refl
nested f p v q (x ∷ xs) =
    let rest = nested f p v q xs in
    let others : List SpareRow = filter p (map v (filter q xs)) in
    let count : ℕ → ℕ = λ y. cond (q y && p (v y)) (f (v y)) 0 in
    grind (arith, q x, p (v x), v x, f (v x), sum_by-cons f (v x) others, sum_by-cons count x xs)

pub whole_counts : (flags : List Bool) (heap : Heap) (n : ℕ)
    → ((h : ℕ) → 1 ≤ h → h < 1 + length heap.hugepages → at_number false flags h ≡ true → backed_count (hugepage heap h) ≡ 256) → backed_pages (whole_given flags heap n).heap + (whole_given flags heap n).pages ≡ backed_pages heap
whole_counts flags heap n full =
    let all = change_counts heap (λ h x. cond (gives_whole flags n h) (unbacked x) x) (λ h. cond (gives_whole flags n h) 256 0)
    (λ h from to. (let x = hugepage heap h in
    let P : Bool → Type 0 = λ b. backed_count (cond b (unbacked x) x) + cond b 256 0 ≡ backed_count x in
    elim (cases_Bool (gives_whole flags n h)) [
      | inl t ↦ subst P (sym t) (sym (full h from to (and_parts _ _ t).0))
      | inr f ↦ subst P (sym f) (plus_none (backed_count x))
    ])) in
    ap (λ k. backed_pages (whole_given flags heap n).heap + k) (sym (scaled (gives_whole flags n) (numbers heap))) ∙ all

pub spare_counts : (heap : Heap) (n : ℕ) → ((h : ℕ) → 1 ≤ h → h < 1 + length heap.hugepages → length (hugepage heap h).backed ≡ 256)
    → backed_pages (spare_given heap n).heap + (spare_given heap n).pages ≡ backed_pages heap
spare_counts heap n size =
    let asked : ℕ → Hugepage → Bool = λ h x. is_filler x && gives_spare (spare_rows heap) n (spare_row heap h) in
    let gives : ℕ → ℕ = λ h. cond (asked h (hugepage heap h)) (spare_row heap h).spare 0 in
    let all = change_counts heap (λ h x. cond (asked h x) (only_used heap.runs h x) x) gives
    (λ h from to. (let x = hugepage heap h in
    let P : Bool → Type 0 = λ b. backed_count (cond b (only_used heap.runs h x) x) + cond b (spare_row heap h).spare 0 ≡ backed_count x in
    elim (cases_Bool (asked h x)) [
      | inl t ↦ subst P (sym t) (both x.backed (is_used heap.runs) (pages_of h) (backs x) (own_backs h x (size h from to)))
      | inr f ↦ subst P (sym f) (plus_none (backed_count x))
    ])) in
    ap (λ k. backed_pages (spare_given heap n).heap + k) (nested (λ r. r.spare) (gives_spare (spare_rows heap) n) (spare_row heap) (λ h. is_filler (hugepage heap h)) (numbers heap)) ∙ all

-- all places are used exactly where their number is used
all_or_fewer : (row : List Bool) → (list_all (λ b. b) row ≡ true → used_count row ≡ length row) × (list_all (λ b. b) row ≡ false → used_count row < length row)
all_or_fewer [] = ((λ e. refl), (λ e. absurd (false≢true (sym e))))
all_or_fewer (true ∷ row) = grind (arith, all_or_fewer row, sum_by-cons (λ b. cond b 1 0) true row)
all_or_fewer (false ∷ row) = grind (arith, count_by-le-length, false≢true, sum_by-cons)

pub whole_exactly : (row : List Bool) (n : ℕ) → length row ≡ n → eqb (used_count row) n ≡ list_all (λ b. b) row
whole_exactly row n size = grind (arith, all_or_fewer, cases_Bool, eq-eqb, ne_eqb)
