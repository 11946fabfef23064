-- The heap that a table means, with the runs, regions and counts beside it.
use Rattle.std.specs.Prelude.{◌≡◌, ℕ, ◌+◌, ◌*◌, ◌/◌, Bool, false, true, ◌==◌, ◌&&◌, not, nat_lt, Contains, if◌then◌else◌}
use Rattle.std.specs.List.{list_any}
use Rattle.tc_units.specs.Units.{huge_pages}
use Rattle.tc_units.specs.declared.spans.Run.{Run}
use Rattle.tc_units.specs.declared.rows.RowKind.{RowKind}
use Rattle.tc_units.specs.declared.rows.RowKind.TheVariants as kind
use Rattle.heap_rules.specs.Heap.{Heap, Hugepage, hugepage, each, spans, is_used, region_row}
use Rattle.heap_rules.specs.New.{Placed, placed, filler_page, run_or_tail}
use Rattle.heap_rules.specs.Settle.{unbacked}
use Rattle.heap_rules.specs.Release.{only_used}
use Rattle.huge_table.specs.Table.{Table, bit}

-- whether the used pages of a hugepage are noted: of all but a run's
abbrev pub shares : RowKind → Bool
shares kind.Free = true
shares kind.Filler = true
shares kind.Run = false
shares kind.Region = true

abbrev pub is_shared : Hugepage → Bool
is_shared x = shares x.kind

abbrev pub is_run : Hugepage → Bool
is_run x = not (is_shared x)

-- whether a run begins on a page, and whether one ends on it
abbrev pub begins_on : ℕ → Run → Bool
begins_on page run = run.first.0 == page

abbrev pub ends_on : ℕ → Run → Bool
ends_on page run = run.first.0 + run.pages == page + 1

-- The table is that of a heap: its hugepages are the heap's, and what it notes of pages is what the heap's runs say.
pub record Means (table : Table) (heap : Heap) : Type 0 where
  pub pages : table.pages ≡ heap.hugepages
  pub used : (page : ℕ) → bit table.used page ≡ (is_shared (hugepage heap (page / huge_pages)) && is_used heap.runs page)
  pub begins : (page : ℕ) → bit table.begins page ≡ list_any (begins_on page) heap.runs
  pub ends : (page : ℕ) → bit table.ends page ≡ list_any (ends_on page) heap.runs

-- What a run of n pages makes of the free hugepages from h on: those that it has whole are its own. Of the last one it has
-- a part, and that one is the filler's, marked as donated where the run has others whole.
abbrev pub taken : Heap → ℕ → ℕ → Placed
taken heap n h = placed heap (huge_pages * h) n (λ k _. if nat_lt n huge_pages then filler_page false else run_or_tail (huge_pages * h + n) k)

-- a heap of which adjacent hugepages lose their backing
abbrev pub unbacked_span : Heap → ℕ → ℕ → Heap
unbacked_span heap first many = record heap { hugepages = each (λ h x. if spans many h first then unbacked x else x) heap.hugepages }

-- a heap of which a hugepage of the filler backs its used pages alone
abbrev pub used_alone : Heap → ℕ → Heap
used_alone heap at = record heap { hugepages = each (λ h x. if spans 1 h at then only_used heap.runs h x else x) heap.hugepages }

-- whether a region has a used page; all regions have one, or all but one
abbrev pub has_used : Heap → ℕ → Bool
has_used heap r = list_any (λ b. b) (region_row heap.runs heap.config.region r)

abbrev pub AllUsed : Heap → Type 0
AllUsed heap = (r : ℕ) → Contains heap.regions r → has_used heap r ≡ true

pub record IsEnding (heap : Heap) (region : ℕ) : Type 0 where
  pub known : Contains heap.regions region
  pub unused : has_used heap region ≡ false
  pub alone : (r : ℕ) → Contains heap.regions r → has_used heap r ≡ false → r ≡ region
