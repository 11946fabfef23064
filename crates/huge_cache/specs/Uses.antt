-- The last use counts, and those of them than which no later one is greater.
use Rattle.std.specs.Prelude.{ℕ, ◌≤◌, nat_le, List, [], ◌∷◌, ◌++◌, All, filter, fold}

-- how many counts are kept, and the counts, the newest last
pub record Uses : Type 0 where
  pub window : ℕ
  pub counts : List ℕ

-- the greatest counts with one more: those below it are no longer among them
abbrev pub with_newest : List ℕ → ℕ → List ℕ
with_newest greatest count = filter (λ x. nat_le count x) greatest ++ count ∷ []

-- the counts than which no later one is greater, in their order; the first of them is the greatest of all
abbrev pub greatest_of : List ℕ → List ℕ
greatest_of counts = fold with_newest [] counts

-- counts of which no later one is greater
abbrev pub IsFalling : List ℕ → Type 0
IsFalling [] = Unit {0}
IsFalling (x ∷ xs) = All (λ y. y ≤ x) xs × IsFalling xs
