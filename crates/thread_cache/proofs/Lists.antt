-- One item of a list in place of another, and items made of numbers.
use Rattle.std.proofs.Common.{◌≡◌, ℕ, zero, suc, ◌<◌, ◌⊎◌, List, [], ◌∷◌, map, sum_by, Some, refl, sym, ap, ◌∙◌, subst, inl, inr, arith}
use Rattle.std.specs.Prelude.{slice_get, slice_set}
use Rattle.std.specs.List.{range_with_len}
use Rattle.std.proofs.lemmas.Option.{slice_get_within, get_or_from_slice_get}
use Rattle.std.proofs.lemmas.List.FromFn.{length-map-range_with_len, get_or-map-range_with_len}
use Rattle.std.proofs.lemmas.List.Sums.{sum_by-cons}
use Rattle.tc_model.proofs.Lists.{set_there}

-- what stands in a list where one item was set, which was another before
abbrev pub IsSet : {X : Type 0} → List X → ℕ → X → X → ℕ → X → Type 0
IsSet xs i old new j x = ((j ≡ i) × (new ≡ x) × (slice_get xs i ≡ Some old)) ⊎ (slice_get xs j ≡ Some x)

pub set_twice : {X : Type 0} (xs : List X) (i : ℕ) (old new : X) (j : ℕ) (x : X) → slice_get (slice_set xs i new) j ≡ Some x
    → IsSet (slice_set xs i old) i old new j x
set_twice [] i old new j x is = absurd (cc)
set_twice (y ∷ ys) zero old new zero x is = inl (refl, cc, refl)
set_twice (y ∷ ys) zero old new (suc j) x is = inr is
set_twice (y ∷ ys) (suc i) old new zero x is = inr is
set_twice (y ∷ ys) (suc i) old new (suc j) x is =
    elim (set_twice ys i old new j x is) [ inl a ↦ inl (ap (λ n. suc n) a.0, a.1, a.2) | inr there ↦ inr there ]

pub set_once : {X : Type 0} (xs : List X) (i : ℕ) (old new : X) (j : ℕ) (x : X) → slice_get xs i ≡ Some old → slice_get (slice_set xs i new) j ≡ Some x
    → IsSet xs i old new j x
set_once xs i old new j x at is = subst (λ ys. IsSet ys i old new j x) (set_there xs i old at) (set_twice xs i old new j x is)

-- items that count alike
pub sum_same : {X : Type 0} (f : X → ℕ) (xs : List X) (i : ℕ) (a b : X) → f a ≡ f b → sum_by f (slice_set xs i a) ≡ sum_by f (slice_set xs i b)
sum_same f [] i a b is = refl
sum_same f (x ∷ xs) zero a b is = omega (arith, is, sum_by-cons f a xs, sum_by-cons f b xs)
sum_same f (x ∷ xs) (suc i) a b is = omega (arith, sum_same f xs i a b is, sum_by-cons f x (slice_set xs i a), sum_by-cons f x (slice_set xs i b))

pub sum_none : {X : Type 0} (f : X → ℕ) (g : ℕ → X) (ks : List ℕ) → ((k : ℕ) → f (g k) ≡ 0) → sum_by f (map g ks) ≡ 0
sum_none f g [] none = refl
sum_none f g (k ∷ ks) none = omega (arith, none k, sum_none f g ks none, sum_by-cons f (g k) (map g ks))

-- the item of a number
pub made_at : {X : Type 0} (f : ℕ → X) (n t : ℕ) (x : X) → slice_get (map f (range_with_len 0 n)) t ≡ Some x → f t ≡ x
made_at f n t x is =
    let low : t < n = omega (arith, slice_get_within (map f (range_with_len 0 n)) t x is, length-map-range_with_len f 0 n) in
    sym (get_or-map-range_with_len f 0 n t t x low (omega arith)) ∙ get_or_from_slice_get (map f (range_with_len 0 n)) t x x is
