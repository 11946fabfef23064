-- The rows of a table as a cache needs them.
use Rattle.std.proofs.Common.{ℕ, ◌<◌, List, [], ◌∷◌, All, arith}
use Rattle.std.proofs.lemmas.List.Elements.{All-cons, All-nil}
use Rattle.tc_units.specs.declared.spans.ClassRow.{ClassRow}
use Rattle.size_classes.specs.Rows.{AreRows}

-- each has a size
pub rows_sized : (above : ℕ) (rows : List ClassRow) → AreRows above rows → All (λ (row : ClassRow). 0 < row.size) rows
rows_sized above [] are = All-nil (λ (row : ClassRow). 0 < row.size)
rows_sized above (row ∷ rows) are =
    All-cons (λ (r : ClassRow). 0 < r.size) row rows (omega (arith, are.1)) (rows_sized row.size rows are.2)
