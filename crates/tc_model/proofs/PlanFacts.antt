-- The calls of a plan stay as more moves are entered.
use Rattle.std.proofs.Common.{◌≡◌, ℕ, ◌≤◌, List, [], ◌∷◌, ◌++◌, length, refl, arith}
use Rattle.std.proofs.lemmas.List.{length-append}
use Rattle.std.proofs.lemmas.List.Elements.{All-cons, All-head, All-nil, All-tail}
use Rattle.std.proofs.lemmas.Bool.Decides.{nat_tests}
use Rattle.tc_model.specs.declared.calls.MoveTo.{MoveTo}
use Rattle.tc_model.specs.declared.plan.Entered.{Entered}
use Rattle.tc_model.proofs.Lists.{get_front}
use Rattle.tc_model.specs.Plans.{move_of, planned_by, AreNumbered}

pub move_still : (moves more : List MoveTo) (n : ℕ) → n ≤ length moves → move_of (moves ++ more) n ≡ move_of moves n
move_still moves more n low = grind (arith, nat_tests, get_front moves more)

pub planned_still : (moves more : List MoveTo) (calls : List Entered) → AreNumbered moves calls → planned_by (moves ++ more) calls ≡ planned_by moves calls
planned_still moves more [] numbered = refl
planned_still moves more (e ∷ es) numbered =
    let low = All-head (λ (x : Entered). x.moved ≤ length moves) e es numbered in
    rw (move_still moves more e.moved low, planned_still moves more es (All-tail (λ (x : Entered). x.moved ≤ length moves) e es numbered)) refl

pub numbered_still : (moves more : List MoveTo) (calls : List Entered) → AreNumbered moves calls → AreNumbered (moves ++ more) calls
numbered_still moves more [] numbered = All-nil (λ (x : Entered). x.moved ≤ length (moves ++ more))
numbered_still moves more (e ∷ es) numbered =
    let low = All-head (λ (x : Entered). x.moved ≤ length moves) e es numbered in
    All-cons (λ (x : Entered). x.moved ≤ length (moves ++ more)) e es (omega (arith, low, length-append moves more)) (numbered_still moves more es (All-tail (λ (x : Entered). x.moved ≤ length moves) e es numbered))
