-- A table of hugepages as a value, and the bits that stand for it.
use Rattle.std.specs.Prelude.{◌≡◌, ℕ, ◌+◌, ◌-◌, ◌*◌, ◌/◌, ◌<◌, ◌≤◌, Bool, true, false, ◌==◌, ◌&&◌, ◌||◌, nat_le, nat_lt, List, length, take, drop, map, if◌then◌else◌}
use Rattle.std.specs.List.{range_with_len, slice_index_or}
use Rattle.tc_units.specs.Units.{huge_pages}
use Rattle.tc_units.specs.declared.rows.RowKind.{RowKind}
use Rattle.tc_units.specs.declared.rows.RowKind.TheVariants as kind
use Rattle.heap_rules.specs.Numbered.{at_number}
use Rattle.heap_rules.specs.Heap.{Hugepage, untouched, whole, pages_of, spans, each, is_free, is_region}
use Rattle.heap_rules.specs.New.{run_page}
use Rattle.heap_rules.specs.Free.{emptied}
use Rattle.huge_table.specs.declared.table.HugeTable.TheInside.{Inside}

-- What each hugepage is, as heaps have it: hugepage h, from 1 on, stands at place h - 1. By page, which ones runs have,
-- but for hugepages that one run has whole, where none is noted; and on which pages runs begin, and end.
pub record Table : Type 0 where
  pub pages : List Hugepage
  pub used : List Bool
  pub begins : List Bool
  pub ends : List Bool

abbrev pub bit : List Bool → ℕ → Bool
bit row k = slice_index_or row k false

-- Two bits say what a hugepage serves: whether it is one of a group (of a run's hugepages, or of a region's), and whether
-- it is shared (so that its used pages are noted). One bit more says whether a free one or a region's is backed; of the
-- filler's, each page has a bit of its own.
abbrev pub free_page : Bool → Hugepage
free_page backed = record { kind = kind.Free; donated = false; backed = whole backed }

abbrev pub part_of_region : Bool → Hugepage
part_of_region backed = record { kind = kind.Region; donated = false; backed = whole backed }

abbrev pub of_filler : Bool → List Bool → ℕ → Hugepage
of_filler donated backed h = record { kind = kind.Filler; donated = donated; backed = map (bit backed) (pages_of h) }

abbrev pub by_bits : Bool → Bool → Bool → Hugepage → Hugepage
by_bits grouped shared backed x = if shared then (if grouped then part_of_region backed else x) else (if grouped then run_page else free_page backed)

abbrev pub kind_by : Bool → Bool → RowKind
kind_by grouped shared = if shared then (if grouped then kind.Region else kind.Filler) else (if grouped then kind.Run else kind.Free)

-- what holds of a hugepage that one run has, of one that is free or a region's, or of one of the filler
abbrev pub of_kind : {X : Type 0} → RowKind → X → X → X → X
of_kind kind.Free run even own = even
of_kind kind.Filler run even own = own
of_kind kind.Run run even own = run
of_kind kind.Region run even own = even

abbrev pub hugepage_of : Inside → ℕ → Hugepage
hugepage_of t h = by_bits (bit t.grouped h) (bit t.shared h) (bit t.backed h) (of_filler (bit t.donated h) t.page_backed h)

abbrev pub table_of : Inside → Table
table_of t = record { pages = map (hugepage_of t) (range_with_len 1 t.huge); used = t.used; begins = t.begins; ends = t.ends }

-- there are enough bits
pub record AreKept (t : Inside) : Type 0 where
  pub most : t.huge ≤ 4096
  pub grouped : t.huge < length t.grouped
  pub shared : t.huge < length t.shared
  pub donated : t.huge < length t.donated
  pub backed : t.huge < length t.backed
  pub page_backed : huge_pages * (t.huge + 1) ≤ length t.page_backed
  pub used : huge_pages * (t.huge + 1) ≤ length t.used
  pub begins : huge_pages * (t.huge + 1) ≤ length t.begins
  pub ends : huge_pages * (t.huge + 1) ≤ length t.ends

-- hugepage h of a table, untouched where the arena has none of this number
abbrev pub at : Table → ℕ → Hugepage
at table h = at_number untouched table.pages h

-- adjacent hugepages of the arena that all pass a test
pub record IsSpan (table : Table) (first many : ℕ) (test : Hugepage → Bool) : Type 0 where
  pub from : 0 < first
  pub to : first + many ≤ length table.pages + 1
  pub all : (h : ℕ) → first ≤ h → h < first + many → test (at table h) ≡ true

-- whether a hugepage is backed whole or not at all by what it serves: a free one, or a region's
abbrev pub is_even : Hugepage → Bool
is_even x = is_free x || is_region x

-- such a hugepage with its backing or without it, and one of a region that has ended
abbrev pub with_backing : Bool → Hugepage → Hugepage
with_backing state x = record x { backed = whole state }

abbrev pub region_freed : Hugepage → Hugepage
region_freed x = record x { kind = kind.Free }

-- how many hugepages n pages from a first one on reach
abbrev pub reached_by : ℕ → ℕ → ℕ
reached_by first n = (first + n + (huge_pages - 1)) / huge_pages - first / huge_pages

-- the table where each of adjacent hugepages is changed
abbrev pub over_span : ℕ → ℕ → (Hugepage → Hugepage) → Table → Table
over_span first many f table = record table { pages = each (λ h x. if spans many h first then f x else x) table.pages }

-- whether a place is one of those from a first one up to another
abbrev pub is_between : ℕ → ℕ → ℕ → Bool
is_between from to page = nat_le from page && nat_lt page to

-- A run of n pages is noted, or no longer is: where it begins and ends, and its used pages, but for the first `skipped`,
-- which it has in whole hugepages.
pub record IsNoted (old new : Table) (first n skipped : ℕ) (state : Bool) : Type 0 where
  pub used : (page : ℕ) → bit new.used page ≡ (if is_between (first + skipped) (first + n) page then state else bit old.used page)
  pub begins : (page : ℕ) → bit new.begins page ≡ (if first == page then state else bit old.begins page)
  pub ends : (page : ℕ) → bit new.ends page ≡ (if first + n == page + 1 then state else bit old.ends page)

-- which pages of hugepage h are noted as used
abbrev pub noted_row : Table → ℕ → List Bool
noted_row table h = take huge_pages (drop (huge_pages * h) table.used)

-- there is a bit for each page of the arena
abbrev pub HasBits : Table → Type 0
HasBits table = huge_pages * (length table.pages + 1) ≤ length table.used

-- a hugepage of the filler without a used page is emptied
abbrev pub emptied_where : Bool → Hugepage → Hugepage
emptied_where unused x = if unused then emptied x else x
