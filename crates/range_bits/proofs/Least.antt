-- The first of those than which none is less, where one is less than all others.
use Rattle.std.proofs.Common.{◌≡◌, zero, suc, Bool, true, false, cond, List, [], ◌∷◌, Option, Some, IfSome, All, Contains, ap, ◌∙◌, subst, ◌⊎◌, arith}
use Rattle.std.specs.Option.{option_map_or}
use Rattle.range_bits.proofs.Common.{nat_tests, All-head, All-tail, first_least}
use Rattle.range_bits.proofs.RangeLemmas.{first_least-all, first_least-none}

-- an element is the least of a list where each element is it, or comes behind it
abbrev pub IsBehind : {X : Type 0} → (X → X → Bool) → X → X → Type 0
IsBehind less x y = (y ≡ x) ⊎ ((less x y ≡ true) × (less y x ≡ false))

module _ {X : Type 0} (less : X → X → Bool) (x : X) where
  -- of two, where one is it
  wins : (y : X) → IsBehind less x y → cond (less x y) x y ≡ x
  wins y behind = grind (arith, nat_tests)

  stays : (o : Option X) → ((y : X) → o ≡ Some y → IsBehind less x y) → option_map_or (λ y. cond (less y x) y x) o x ≡ x
  stays o behind = grind (arith, nat_tests)

  pub least_is_first : (xs : List X) → Contains xs x → All (IsBehind less x) xs → first_least less xs ≡ Some x
  least_is_first [] held all = absurd (omega (arith, held.1))
  least_is_first (y ∷ ys) (zero, l, e) all =
      let rest = first_least-all (IsBehind less x) less ys (All-tail (IsBehind less x) y ys all) in
      ap (λ (z : X). Some (option_map_or (λ y. cond (less y z) y z) (first_least less ys) z)) e ∙ ap Some (stays (first_least less ys) (λ z h. subst (λ (o : Option X). IfSome o (IsBehind less x)) h rest))
  least_is_first (y ∷ ys) (suc k, l, e) all = ap (λ (o : Option X). Some (option_map_or (λ z. cond (less z y) z y) o y)) (least_is_first ys (k, omega arith, e) (All-tail (IsBehind less x) y ys all)) ∙ ap Some (wins y (All-head (IsBehind less x) y ys all))

-- where the order goes one way and a place that it doesn't reach it doesn't reach by another one, none is less than the first
pub none_less : {X : Type 0} (less : X → X → Bool) → ((x y : X) → less x y ≡ true → less y x ≡ false) → ((x y z : X) → less x y ≡ false → less y z ≡ false → less x z ≡ false) → (xs : List X) (first : X) → first_least less xs ≡ Some first → All (λ x. less x first ≡ false) xs
none_less less one_way passes [] first e = absurd (cc)
none_less {X} less one_way passes (x ∷ xs) first e = grind (arith, nat_tests, none_less less one_way passes xs, first_least-none)
