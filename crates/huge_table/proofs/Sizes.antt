-- How many hugepages a table has.
use Rattle.std.proofs.Common.{◌≡◌, ℕ, cond, length, sym, ap, ◌∙◌}
use Rattle.huge_table.proofs.Common.{length-map-range_with_len, Hugepage, spans, length-each, Table, hugepage_of, table_of, over_span, Inside}

-- as many as there are bits for
pub arena : (t : Inside) (now : Table) → table_of t ≡ now → length now.pages ≡ t.huge
arena t now e = sym (ap (λ (x : Table). length x.pages) e) ∙ length-map-range_with_len (hugepage_of t) 1 t.huge

-- a change keeps their number
pub length-over : (s t : Table) (a many : ℕ) (f : Hugepage → Hugepage) → s ≡ over_span a many f t → length s.pages ≡ length t.pages
length-over s t a many f e = ap (λ (x : Table). length x.pages) e ∙ length-each (λ h x. cond (spans many h a) (f x) x) t.pages
