-- One polite move more.
use Rattle.std.proofs.Common.{◌≡◌, ℕ, true, List, [], ◌∷◌, ◌++◌, fold, arith}
use Rattle.tc_model.specs.declared.steps.Stepped.{Stepped}
use Rattle.tc_model.specs.declared.steps.Stepped.TheVariants as step
use Rattle.tc_model.specs.Run.{Rules, World, start, run, pick}
use Rattle.tc_model.specs.Steps.{stepped, order_with}
use Rattle.tc_model.specs.Replays.{is_polite}
use Rattle.tc_model.specs.Chains.{IsPoliteMove, IsPolite}

polite_move : {P L : Type 0} (r : Rules P L) (w : World P L) (t : ℕ) → stepped r w t ≡ step.Moved → is_polite r w t ≡ true → IsPoliteMove r w t
polite_move r w t moved polite = grind (arith)

polite-push : {P L : Type 0} (r : Rules P L) (w : World P L) (order : List ℕ) (t : ℕ) → IsPolite r w order → IsPoliteMove r (fold (pick r) w order) t → IsPolite r w (order ++ t ∷ [])
polite-push r w [] t polite move = (move, tt)
polite-push r w (u ∷ us) t polite move = (polite.0, polite-push r (pick r w u) us t polite.1 move)

-- the order with one more polite pick, where that moved
pub polite-with : {P L : Type 0} (r : Rules P L) (order : List ℕ) (t : ℕ) (s : Stepped) → IsPolite r (start r) order → s ≡ stepped r (run r order) t
    → is_polite r (run r order) t ≡ true → IsPolite r (start r) (order_with order t s)
polite-with r order t s polite answer yields = grind (arith, polite-push, polite_move)
