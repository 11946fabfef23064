-- What begins at a page by leaves of hugepages, and the spans that they mean.
use Rattle.std.specs.Prelude.{◌≡◌, ℕ, zero, suc, ◌+◌, ◌-◌, ◌*◌, ◌/◌, ◌%◌, Bool, false, ◌==◌, List, [], ◌++◌, length, find, is_some, Option, Some, None}
use Rattle.std.specs.List.{slice_index_or}
use Rattle.std.specs.Option.{option_to_list}
use Rattle.tc_units.specs.Units.{huge_pages}
use Rattle.tc_units.specs.declared.spans.SpanRef.{SpanRef}
use Rattle.page_map.specs.declared.leaf.Leaf.{Leaf}
use Rattle.page_map.specs.Spans.{SpanMap, IsWellFormed}

-- whether a span begins at a page
abbrev pub begins : ℕ → SpanRef → Bool
begins page span = page == span.first.0

-- the span that begins at the page of a place in a hugepage, and at a page
abbrev pub begin_in : Option Leaf → ℕ → Option SpanRef
begin_in None place = None
begin_in (Some leaf) place = slice_index_or leaf.begins.items place None

abbrev pub begin_at : List (Option Leaf) → ℕ → Option SpanRef
begin_at leaves page = begin_in (slice_index_or leaves (page / huge_pages) None) (page % huge_pages)

-- the spans that begin at a number of pages, from a page on
abbrev pub spans_from : (ℕ → Option SpanRef) → ℕ → ℕ → List SpanRef
spans_from begin page zero = []
spans_from begin page (suc n) = option_to_list (begin page) ++ spans_from begin (page + 1) n

-- the map that leaves mean
abbrev pub map_of : List (Option Leaf) → SpanMap
map_of leaves = record { huge = length leaves - 1; spans = spans_from (begin_at leaves) 0 (huge_pages * length leaves) }

-- the map is well formed, the leaves tell of each page the span that begins there, and the set has the pages where one does
pub record IsKept (leaves : List (Option Leaf)) (set : List Bool) : Type 0 where
  pub well_formed : IsWellFormed (map_of leaves)
  pub begins : (page : ℕ) → begin_at leaves page ≡ find (begins page) (map_of leaves).spans
  pub places : (page : ℕ) → slice_index_or set page false ≡ is_some (begin_at leaves page)
  pub size : length set ≡ huge_pages * length leaves
