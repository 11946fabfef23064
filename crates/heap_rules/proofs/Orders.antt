-- Orders by one number, and by another where that is the same.
use Rattle.std.proofs.Common.{◌≡◌, ℕ, Bool, cond, ◌&&◌, ◌||◌, nat_lt, nat_eq, Ordering, ap, ◌∙◌}
use Rattle.std.specs.Ordering.{nat_cmp, ordering_then, is_lt}
use Rattle.std.specs.declared.cmp.Ordering.TheVariants.{Less, Equal, Greater}
use Rattle.std.proofs.Common.{arith}

pub then_is : (l e : Bool) (rest : Ordering) → is_lt (ordering_then (cond l Less (cond e Equal Greater)) rest) ≡ (l || (e && is_lt rest))
then_is l e rest = grind (arith)

pub last_is : (l e : Bool) → is_lt (cond l Less (cond e Equal Greater)) ≡ l
last_is l e = grind (arith)

pub by_first : (x y : ℕ) (rest : Ordering) (b : Bool) → is_lt rest ≡ b → is_lt (ordering_then (nat_cmp x y) rest) ≡ (nat_lt x y || (nat_eq x y && b))
by_first x y rest b e = then_is (nat_lt x y) (nat_eq x y) rest ∙ ap (λ (t : Bool). nat_lt x y || (nat_eq x y && t)) e
