-- The item of a hugepage, by its place.
use Rattle.std.proofs.Common.{◌≡◌, ℕ, ◌+◌, ◌-◌, ◌<◌, List, get_or, Option, Some, None, ap, ◌∙◌, arith}
use Rattle.std.proofs.lemmas.Bool.{cases_lt}
use Rattle.std.proofs.lemmas.Grind.{get_or_head, get_or_tail}
use Rattle.std.proofs.lemmas.Option.{none-some}
use Rattle.heap_rules.specs.Numbered.{at_number}

-- from 1 on it stands one place before
pub at_number-place : {X : Type 0} (none : X) (xs : List X) (h : ℕ) → 0 < h → at_number none xs h ≡ get_or xs (h - 1) none
at_number-place none xs h some = get_or_tail none xs h none some

pub at_number-next : {X : Type 0} (none : X) (xs : List X) (k : ℕ) → at_number none xs (1 + k) ≡ get_or xs k none
at_number-next none xs k = let e : 1 + k - 1 ≡ k = omega arith in at_number-place none xs (1 + k) (omega arith) ∙ ap (λ i. get_or xs i none) e

-- where there is one, the number isn't 0
pub at_number-there : {X : Type 0} (xs : List (Option X)) (h : ℕ) (x : X) → at_number None xs h ≡ Some x → (0 < h) × (get_or xs (h - 1) None ≡ Some x)
at_number-there xs h x e = grind (arith, at_number-place, cases_lt, get_or_head, none-some)
