-- A page heap as a value: its live runs, its regions, its hugepages and its use counts. All else is a function of these.
use Rattle.std.specs.Prelude.{ℕ, ◌+◌, ◌*◌, ◌/◌, ◌%◌, Bool, true, false, ◌&&◌, nat_lt, nat_le, List, [], length, map, count_by, replicate, if◌then◌else◌, sum_by}
use Rattle.std.specs.List.{list_any, list_all, range_with_len, enumerate_from, slice_index_or}
use Rattle.tc_units.specs.Units.{huge_pages}
use Rattle.tc_units.specs.Sorted.{with_item, without_key}
use Rattle.tc_units.specs.declared.spans.Run.{Run}
use Rattle.tc_units.specs.declared.rows.RowKind.{RowKind}
use Rattle.tc_units.specs.declared.rows.RowKind.TheVariants as kind
use Rattle.tc_units.specs.declared.rows.RowView.{RowView}
use Rattle.heap_rules.specs.declared.config.HeapConfig.{HeapConfig}
use Rattle.heap_rules.specs.Numbered.{at_number}
use Rattle.range_bits.specs.Ranges.{longest}

-- what a hugepage serves, whether it is the donated tail of a larger run, and which of its 256 pages are backed
pub record Hugepage : Type 0 where
  pub kind : RowKind
  pub donated : Bool
  pub backed : List Bool

-- A heap, with the limits it was opened with. The live runs stand in the order of their first pages, a region is
-- given by its first hugepage, hugepage h, from 1 on, stands at place h - 1, and the newest use count stands last.
pub record Heap : Type 0 where
  pub config : HeapConfig
  pub runs : List Run
  pub regions : List ℕ
  pub hugepages : List Hugepage
  pub counts : List ℕ

-- a hugepage's 256 pages, all backed or none
abbrev pub whole : Bool → List Bool
whole backed = replicate huge_pages backed

-- a hugepage that nothing uses and nothing backs
abbrev pub untouched : Hugepage
untouched = record { kind = kind.Free; donated = false; backed = whole false }

-- a heap at its opening
abbrev pub opened : HeapConfig → Heap
opened config = record { config = config; runs = []; regions = []; hugepages = replicate config.huge untouched; counts = [] }

-- the numbers of the hugepages
abbrev pub numbers : Heap → List ℕ
numbers heap = range_with_len 1 (length heap.hugepages)

-- hugepage h, untouched where the arena has none of this number
abbrev pub hugepage : Heap → ℕ → Hugepage
hugepage heap h = at_number untouched heap.hugepages h

-- the hugepages after each is changed by its number and what it is
abbrev pub each : (ℕ → Hugepage → Hugepage) → List Hugepage → List Hugepage
each change xs = map (λ p. change p.0 p.1) (enumerate_from 1 xs)

-- Runs and pages.
-- the run of n pages from a page on
abbrev pub run_at : ℕ → ℕ → Run
run_at page n = record { first = record { 0 = page }; pages = n }

-- whether a run holds a page
abbrev pub holds : ℕ → Run → Bool
holds page run = nat_le run.first.0 page && nat_lt page (run.first.0 + run.pages)

-- a page is used where a live run holds it
abbrev pub is_used : List Run → ℕ → Bool
is_used runs page = list_any (holds page) runs

-- the runs with one more, and without the one that begins where the given one does
abbrev pub with_run : Run → List Run → List Run
with_run run runs = with_item (λ r. r.first.0) run runs

abbrev pub without_run : Run → List Run → List Run
without_run run runs = without_key (λ r. r.first.0) run.first.0 runs

-- which of n pages from a page on are used
abbrev pub used_from : List Run → ℕ → ℕ → List Bool
used_from runs first n = map (is_used runs) (range_with_len first n)

-- the numbers of the pages of hugepage h
abbrev pub pages_of : ℕ → List ℕ
pages_of h = range_with_len (huge_pages * h) huge_pages

-- Measures of hugepage h, by looking at its pages and at the runs.
-- which of its pages are used
abbrev pub used_row : List Run → ℕ → List Bool
used_row runs h = used_from runs (huge_pages * h) huge_pages

-- how many of its pages are used
abbrev pub used_count : List Run → ℕ → ℕ
used_count runs h = count_by (λ b. b) (used_row runs h)

-- whether a run has a page in it, and how many live runs have
abbrev pub reaches : ℕ → Run → Bool
reaches h run = nat_lt run.first.0 (huge_pages * (h + 1)) && nat_lt (huge_pages * h) (run.first.0 + run.pages)

abbrev pub allocation_count : List Run → ℕ → ℕ
allocation_count runs h = count_by (reaches h) runs

-- its longest range of unused pages
abbrev pub longest_range : List Run → ℕ → ℕ
longest_range runs h = longest (used_row runs h)

-- whether it backs a page, which is one of its own, and how many it backs
abbrev pub backs : Hugepage → ℕ → Bool
backs x page = slice_index_or x.backed (page % huge_pages) false

abbrev pub backed_count : Hugepage → ℕ
backed_count x = count_by (λ b. b) x.backed

-- its tier: 2 where a page of it is unbacked, else 1 where it is donated, else 0
abbrev pub tier : Hugepage → ℕ
tier x = if list_all (λ b. b) x.backed then (if x.donated then 1 else 0) else 2

-- whether two kinds are the same, and whether a hugepage is free, of the filler, of a region, and free and backed
abbrev pub is_kind : RowKind → RowKind → Bool
is_kind kind.Free kind.Free = true
is_kind kind.Filler kind.Filler = true
is_kind kind.Run kind.Run = true
is_kind kind.Region kind.Region = true
is_kind a b = false

abbrev pub is_free : Hugepage → Bool
is_free x = is_kind kind.Free x.kind

abbrev pub is_filler : Hugepage → Bool
is_filler x = is_kind kind.Filler x.kind

abbrev pub is_region : Hugepage → Bool
is_region x = is_kind kind.Region x.kind

abbrev pub is_free_backed : Hugepage → Bool
is_free_backed x = is_free x && list_all (λ b. b) x.backed

-- Regions: whether one of `width` hugepages from r on has hugepage h, and which of its pages are used.
abbrev pub spans : ℕ → ℕ → ℕ → Bool
spans width h r = nat_le r h && nat_lt h (r + width)

abbrev pub region_row : List Run → ℕ → ℕ → List Bool
region_row runs width r = used_from runs (huge_pages * r) (huge_pages * width)

-- Measures of a heap.
-- whether a page is backed
abbrev pub is_backed : Heap → ℕ → Bool
is_backed heap page = backs (hugepage heap (page / huge_pages)) page

-- how many pages are used, and how many are backed
abbrev pub used_pages : Heap → ℕ
used_pages heap = sum_by (used_count heap.runs) (numbers heap)

abbrev pub backed_pages : Heap → ℕ
backed_pages heap = sum_by backed_count heap.hugepages

-- all measures of hugepage h
abbrev pub row_of : Heap → ℕ → RowView
row_of heap h =
    let x = hugepage heap h in
    record { kind = x.kind; used = used_count heap.runs h; allocs = allocation_count heap.runs h; backed = backed_count x; longest = longest_range heap.runs h; donated = x.donated }
