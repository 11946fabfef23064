-- Lists with an item for each hugepage of the arena. They are numbered from 1 on: hugepage h stands at place h - 1.
use Rattle.std.specs.Prelude.{ℕ, List, ◌∷◌}
use Rattle.std.specs.List.{slice_index_or}

-- the item of hugepage h; the arena has no hugepage 0, so 0 has what stands for none, as has what is past the last
abbrev pub at_number : {X : Type 0} → X → List X → ℕ → X
at_number none xs h = slice_index_or (none ∷ xs) h none
