-- Parts that are added one by one.
use Rattle.std.proofs.Common.{◌≡◌, ℕ, ◌+◌, ◌<◌, List, [], ◌∷◌, ◌++◌, map, sym, ap, ◌∙◌, arith, append_assoc}
use Rattle.std.specs.Prelude.{All}
use Rattle.std.specs.List.{range_with_len}
use Rattle.std.proofs.lemmas.List.FromFn.{map-range_with_len_more}
use Rattle.std.proofs.lemmas.List.Elements.{All-cons, All-nil}
use Rattle.tc_units.specs.declared.spans.ClassRow.{ClassRow}
use Rattle.size_classes.specs.Rows.{AreRows}

-- the cache of one class more
pub cache_more : {X : Type 0} (g : ℕ → X) (old now next : List X) (n : ℕ) (y : X) → now ≡ old ++ map g (range_with_len 0 n) → y ≡ g n → next ≡ now ++ y ∷ [] → next ≡ old ++ map g (range_with_len 0 (n + 1))
cache_more g old now next n y are is more =
    more ∙ (ap (λ ys. ys ++ y ∷ []) are
    ∙ (ap (λ z. (old ++ map g (range_with_len 0 n)) ++ z ∷ []) is
    ∙ (append_assoc old (map g (range_with_len 0 n)) (g n ∷ []) ∙ ap (λ ys. old ++ ys) (sym (map-range_with_len_more g 0 n n (omega arith))))))

-- rows of a table have a size
pub rows_sized : (above : ℕ) (rows : List ClassRow) → AreRows above rows → All (λ (row : ClassRow). 0 < row.size) rows
rows_sized above [] are = All-nil (λ (row : ClassRow). 0 < row.size)
rows_sized above (row ∷ rows) are = All-cons (λ (r : ClassRow). 0 < r.size) row rows (omega (arith, are.1)) (rows_sized row.size rows are.2)
