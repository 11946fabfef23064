-- What holds of the order of a run, and of each beginning of it.
use Rattle.std.specs.Prelude.{◌≡◌, ℕ, ◌≤◌, List, ◌++◌, length}
use Rattle.tc_model.specs.Run.{Rules, start}
use Rattle.tc_model.specs.Steps.{moving}

-- Each pick of an order moves, and they are at most as many as may move; the rules are lawful; and behind each beginning of
-- the order, so between any two picks, all holds that holds in every order.
pub record IsLawfulOrder {P L : Type 0} (r : Rules P L) (AreLawful : Type 0) (HoldsAfter : List ℕ → Type 0) (most : ℕ) (order : List ℕ) : Type 0 where
  pub moves : moving r (start r) order ≡ order
  pub few : length order ≤ most
  pub rules : AreLawful
  pub holds : (earlier later : List ℕ) → earlier ++ later ≡ order → HoldsAfter earlier
