-- One more hugepage in a text.
use Rattle.std.proofs.Common.{◌≡◌, ℕ, ◌+◌, ◌<◌, List, [], ◌∷◌, ◌++◌, length, get_or, take, ap, sym, ◌∙◌, arith, append_assoc}
use Rattle.std.proofs.lemmas.List.{append-nil, take_more, length-take-le}
use Rattle.std.proofs.lemmas.List.Concat.{flat_map-append}
use Rattle.std.specs.List.{flat_map, enumerate_from}
use Rattle.tc_units.specs.declared.rows.RowView.{RowView}
use Rattle.usage_report.specs.Report.{row_line, row_lines}

-- an item more has the number behind the last one's
enumerate_from-push : {X : Type 0} (n : ℕ) (xs : List X) (x : X) → enumerate_from n (xs ++ x ∷ []) ≡ enumerate_from n xs ++ (n + length xs, x) ∷ []
enumerate_from-push n [] x = ap (λ m. (m, x) ∷ []) (omega arith)
enumerate_from-push n (y ∷ ys) x =
    ap (λ more. (n, y) ∷ more) (enumerate_from-push (n + 1) ys x ∙ ap (λ m. enumerate_from (n + 1) ys ++ (m, x) ∷ []) (omega arith))

-- a hugepage more adds its line, under its number
pub row_lines-more : (rows : List RowView) (i : ℕ) (d : RowView) → i < length rows → row_lines (take (i + 1) rows) ≡ row_lines (take i rows) ++ row_line (i + 1) (get_or rows i d)
row_lines-more rows i d l =
    let line : ℕ × RowView → List ℕ = λ (numbered : ℕ × RowView). row_line numbered.0 numbered.1 in
    let x : RowView = get_or rows i d in
    let number : 1 + length (take i rows) ≡ i + 1 = omega (arith, length-take-le i rows (omega arith)) in
    ap row_lines (take_more rows i d l)
    ∙ ap (flat_map line) (enumerate_from-push 1 (take i rows) x)
    ∙ flat_map-append line (enumerate_from 1 (take i rows)) ((1 + length (take i rows), x) ∷ [])
    ∙ ap (λ m. row_lines (take i rows) ++ (row_line m x ++ [])) number
    ∙ ap (λ more. row_lines (take i rows) ++ more) (append-nil (row_line (i + 1) x))

-- a text that gains that line has all lines as far as it
pub row_pushed : (text before after : List ℕ) (rows : List RowView) (i : ℕ) (d : RowView) → i < length rows → before ≡ text ++ row_lines (take i rows) → after ≡ before ++ row_line (i + 1) (get_or rows i d) → after ≡ text ++ row_lines (take (i + 1) rows)
row_pushed text before after rows i d l was now =
    let lines : List ℕ = row_lines (take i rows) in
    let line : List ℕ = row_line (i + 1) (get_or rows i d) in
    now
    ∙ ap (λ (front : List ℕ). front ++ line) was
    ∙ append_assoc text lines line
    ∙ ap (λ (more : List ℕ). text ++ more) (sym (row_lines-more rows i d l))
