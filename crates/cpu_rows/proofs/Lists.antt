-- One item of a list in place of another.
use Rattle.std.proofs.Common.{◌≡◌, ℕ, zero, suc, List, [], ◌∷◌, Some, refl, subst, slice_get, slice_set, arith}
use Rattle.cpu_rows.proofs.Common.{set_there}

-- what stands at a place of a list where one item was set, which was another before
pub data IsSet {X : Type 0} (xs : List X) (i : ℕ) (old new : X) (j : ℕ) (x : X) : Type 0 where
  Here : j ≡ i → x ≡ new → slice_get xs i ≡ Some old → IsSet xs i old new j x
  There : (j ≡ i → ⊥) → slice_get xs j ≡ Some x → IsSet xs i old new j x

pub set_twice : {X : Type 0} (xs : List X) (i : ℕ) (old new : X) (j : ℕ) (x : X) → slice_get (slice_set xs i new) j ≡ Some x → IsSet (slice_set xs i old) i old new j x
set_twice [] i old new j x is = absurd (cc)
set_twice (y ∷ ys) zero old new zero x is = Here refl (cc) refl
set_twice (y ∷ ys) zero old new (suc j) x is = There (λ e. cc) is
set_twice (y ∷ ys) (suc i) old new zero x is = There (λ e. cc) is
set_twice (y ∷ ys) (suc i) old new (suc j) x is = grind (arith, set_twice ys i old new j x is)

pub set_once : {X : Type 0} (xs : List X) (i : ℕ) (old new : X) (j : ℕ) (x : X) → slice_get xs i ≡ Some old → slice_get (slice_set xs i new) j ≡ Some x
    → IsSet xs i old new j x
set_once xs i old new j x at is = subst (λ ys. IsSet ys i old new j x) (set_there xs i old at) (set_twice xs i old new j x is)
