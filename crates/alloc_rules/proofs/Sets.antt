-- What holds of each item of a list in which one was set.
use Rattle.std.proofs.Common.{◌≡◌, ℕ, zero, suc, List, [], ◌∷◌, map, Some, slice_get, slice_set, refl, ap, arith}
use Rattle.alloc_rules.proofs.Common.{cases_eq}
use Rattle.tc_model.proofs.Lists.{set_elsewhere, set_here}

pub each_set : {X : Type 0} (P : ℕ → X → Type 0) (xs : List X) (t : ℕ) (new old : X) → slice_get xs t ≡ Some old → P t new
    → ((u : ℕ) (x : X) → (t ≡ u → ⊥) → slice_get xs u ≡ Some x → P u x) → (u : ℕ) (x : X) → slice_get (slice_set xs t new) u ≡ Some x → P u x
each_set P xs t new old there here others u x is = grind (arith, cases_eq, set_elsewhere, set_here)

pub map_set : {X Y : Type 0} (f : X → Y) (xs : List X) (i : ℕ) (x : X) → slice_set (map f xs) i (f x) ≡ map f (slice_set xs i x)
map_set f [] i x = refl
map_set f (y ∷ xs) zero x = refl
map_set f (y ∷ xs) (suc i) x = ap (λ zs. f y ∷ zs) (map_set f xs i x)
