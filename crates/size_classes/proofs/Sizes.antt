-- The sizes of rows by their places.
use Rattle.std.proofs.Common.{◌≡◌, ℕ, ◌<◌, ◌≤◌, zero, suc, List, [], ◌∷◌, ◌++◌, length, get_or, refl, sym, ap, subst, ◌∙◌, arith}
use Rattle.std.proofs.lemmas.List.{get_or-map}
use Rattle.tc_units.specs.declared.spans.ClassRow.{ClassRow}
use Rattle.size_classes.specs.Rows.{IsRow, AreRows, sizes_of}

-- a row that says nothing
abbrev pub no_row : ClassRow
no_row = record { size = 0; pages = 0; batch = 0 }

-- the size at a place
pub size_at : (rows : List ClassRow) (i : ℕ) → i < length rows → get_or (sizes_of rows) i 0 ≡ (get_or rows i no_row).size
size_at rows i within = get_or-map (λ (r : ClassRow). r.size) rows i no_row 0 within

-- the size at the place of a row
pub size_read : (rows : List ClassRow) (i : ℕ) (row : ClassRow) → i < length rows → row ≡ get_or rows i row
    → get_or (sizes_of rows) i 0 ≡ row.size
size_read rows i row within is =
    get_or-map (λ (r : ClassRow). r.size) rows i row 0 within ∙ ap (λ (r : ClassRow). r.size) (sym is)

-- all sizes are above the one that the rows are above
pub size_above : (above : ℕ) (rows : List ClassRow) (i : ℕ) → AreRows above rows → i < length rows
    → above < get_or (sizes_of rows) i 0
size_above above [] i rise within = absurd (omega arith)
size_above above (row ∷ rows) zero rise within = rise.1
size_above above (row ∷ rows) (suc i) rise within = grind (arith, size_above row.size rows i rise.2)

-- the sizes rise with the places
pub sizes_rise : (above : ℕ) (rows : List ClassRow) (i j : ℕ) → AreRows above rows → i ≤ j → j < length rows
    → get_or (sizes_of rows) i 0 ≤ get_or (sizes_of rows) j 0
sizes_rise above [] i j rise order within = absurd (omega arith)
sizes_rise above (row ∷ rows) zero zero rise order within = omega arith
sizes_rise above (row ∷ rows) zero (suc j) rise order within =
    let later = size_above row.size rows j rise.2 (omega arith) in omega arith
sizes_rise above (row ∷ rows) (suc i) zero rise order within = absurd (omega arith)
sizes_rise above (row ∷ rows) (suc i) (suc j) rise order within =
    sizes_rise row.size rows i j rise.2 (omega arith) (omega arith)

-- the row at each place keeps the rules
pub row_at : (above : ℕ) (rows : List ClassRow) (i : ℕ) (row : ClassRow) → AreRows above rows → i < length rows
    → row ≡ get_or rows i row → IsRow row
row_at above [] i row rise within is = absurd (omega arith)
row_at above (first ∷ rows) zero row rise within is = subst IsRow (sym is) rise.0
row_at above (first ∷ rows) (suc i) row rise within is = row_at first.size rows i row rise.2 (omega arith) is

-- the size of the last row, or the one that the rows are above
abbrev pub last_size : ℕ → List ClassRow → ℕ
last_size above [] = above
last_size above (row ∷ rows) = last_size row.size rows

-- one more row, above the last one
pub rows_push : (above : ℕ) (rows : List ClassRow) (row : ClassRow) → AreRows above rows → IsRow row
    → last_size above rows < row.size → AreRows above (rows ++ row ∷ [])
rows_push above [] row rise rules more = (rules, more, tt)
rows_push above (first ∷ rows) row rise rules more = (rise.0, rise.1, rows_push first.size rows row rise.2 rules more)

pub last_push : (above : ℕ) (rows : List ClassRow) (row : ClassRow) → last_size above (rows ++ row ∷ []) ≡ row.size
last_push above [] row = refl
last_push above (first ∷ rows) row = last_push first.size rows row
