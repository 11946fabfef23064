-- A new run: its three routes, and where none fits.
use Rattle.std.specs.Prelude.{ℕ, ◌+◌, ◌-◌, ◌*◌, ◌%◌, Bool, true, false, ◌==◌, ◌&&◌, ◌||◌, not, nat_lt, nat_le, map, sum_by, Option, None, option_map, if◌then◌else◌}
use Rattle.std.specs.List.{list_all}
use Rattle.std.specs.Option.{option_or}
use Rattle.tc_units.specs.Units.{huge_pages}
use Rattle.tc_units.specs.Sorted.{with_item}
use Rattle.tc_units.specs.declared.spans.Run.{Run}
use Rattle.tc_units.specs.declared.rows.RowKind.TheVariants as kind
use Rattle.heap_rules.specs.declared.config.HeapConfig.{HeapConfig}
use Rattle.range_bits.specs.Ranges.{longest}
use Rattle.heap_rules.specs.Heap.{Heap, Hugepage, hugepage, numbers, each, whole, run_at, holds, with_run, pages_of, used_count, reaches, backs, is_free, spans}
use Rattle.heap_rules.specs.FillerRows.{filler_place}
use Rattle.heap_rules.specs.FillerRows as filler
use Rattle.heap_rules.specs.RegionRows.{region_place}
use Rattle.heap_rules.specs.RegionRows as regions
use Rattle.heap_rules.specs.Choice.{filler_rows, run_choice, taken_row, region_rows, hugepages_for}
use Rattle.heap_rules.specs.Settle.{settled}

-- a run, and the heap in which it lives
pub record Placed : Type 0 where
  pub run : Run
  pub heap : Heap

-- the run of n pages from a page on, with what each hugepage that it reaches becomes
abbrev pub placed : Heap → ℕ → ℕ → (ℕ → Hugepage → Hugepage) → Placed
placed heap page n becomes =
    let run = run_at page n in
    record { run = run; heap = record heap { runs = with_run run heap.runs; hugepages = each (λ h x. if reaches h run then becomes h x else x) heap.hugepages } }

-- What a hugepage becomes.
-- of the filler: its pages of the run are backed
abbrev pub more_backed : Run → ℕ → Hugepage → Hugepage
more_backed run h x = record x { backed = map (λ page. backs x page || holds page run) (pages_of h) }

-- a free one that the filler gets: it is backed whole
abbrev pub filler_page : Bool → Hugepage
filler_page donated = record { kind = kind.Filler; donated = donated; backed = whole true }

-- of a run of hugepages: it serves the run alone where the run holds all of it, else it is the donated tail
abbrev pub run_page : Hugepage
run_page = record { kind = kind.Run; donated = false; backed = whole true }

abbrev pub run_or_tail : ℕ → ℕ → Hugepage
run_or_tail end h = if nat_le (huge_pages * (h + 1)) end then run_page else filler_page true

-- of a region: it is backed whole
abbrev pub all_backed : Hugepage → Hugepage
all_backed x = record x { backed = whole true }

-- Below a hugepage: where the filler finds a place, else in a free hugepage.
abbrev pub in_filler : Heap → ℕ → ℕ → Placed
in_filler heap n page = placed heap page n (more_backed (run_at page n))

abbrev pub in_fresh : Heap → ℕ → ℕ → Placed
in_fresh heap n h = placed heap (huge_pages * h) n (λ _ _. filler_page false)

abbrev pub new_small : Heap → ℕ → Option Placed
new_small heap n = option_or (option_map (in_filler heap n) (filler_place (filler_rows heap) n)) (option_map (in_fresh heap n) (run_choice heap 1))

-- The run route: whole hugepages, of which the last is donated to the filler where n isn't a multiple.
abbrev pub new_whole : Heap → ℕ → Option Placed
new_whole heap n = option_map (λ h. placed heap (huge_pages * h) n (λ k _. run_or_tail (huge_pages * h + n) k)) (run_choice heap (hugepages_for n))

-- In a region.
abbrev pub in_region : Heap → ℕ → ℕ → Placed
in_region heap n page = placed heap page n (λ _ x. all_backed x)

-- the heap with a new region, whose hugepages keep their backing
abbrev pub region_page : Hugepage → Hugepage
region_page x = record { kind = kind.Region; donated = false; backed = x.backed }

abbrev pub with_new_region : Heap → ℕ → Heap
with_new_region heap r = record heap {
  regions = with_item (λ k. k) r heap.regions;
  hugepages = each (λ h x. if spans heap.config.region h r then region_page x else x) heap.hugepages;
}

abbrev pub in_new_region : Heap → ℕ → ℕ → Placed
in_new_region heap n r = placed (with_new_region heap r) (huge_pages * r) n (λ _ x. all_backed x)

-- the free pages of donated hugepages, and those that n pages would leave in their last hugepage
abbrev pub slack : Heap → ℕ → ℕ
slack heap n = sum_by (λ h. if (hugepage heap h).donated then huge_pages - used_count heap.runs h else 0) (numbers heap) + (huge_pages * hugepages_for n - n)

-- In a region that has room, else in a new one where the slack is large enough, else by the run route.
abbrev pub by_regions : Heap → ℕ → Option Placed
by_regions heap n =
    let joined = option_map (in_region heap n) (region_place (region_rows heap) n) in
    let opened = if nat_le heap.config.slack (slack heap n) then option_map (in_new_region heap n) (run_choice heap heap.config.region) else None in
    option_or joined (option_or opened (new_whole heap n))

-- whether n pages, 256 or more, may lie in a region: no multiple of a hugepage, and no more than a region has
abbrev pub suits_region : HeapConfig → ℕ → Bool
suits_region config n = not (n % huge_pages == 0) && nat_le n (huge_pages * config.region)

-- A new run of n pages, by its route.
abbrev pub new_unsettled : Heap → ℕ → Option Placed
new_unsettled heap n = if nat_lt n huge_pages then new_small heap n else (if suits_region heap.config n then by_regions heap n else new_whole heap n)

-- and then the heap settles
abbrev pub new : Heap → ℕ → Option Placed
new heap n = option_map (λ (p : Placed). record p { heap = settled p.heap }) (new_unsettled heap n)

-- No run of n pages fits. Below a hugepage: no hugepage of the filler has n adjacent unused pages, and none is free.
-- Else: too few adjacent hugepages are free, and no region suits n and has n adjacent unused pages.
abbrev pub none_fits : Heap → ℕ → Bool
none_fits heap n =
    if nat_lt n huge_pages
    then list_all (λ row. not (filler.has_room n row)) (filler_rows heap) && list_all (λ x. not (is_free x)) heap.hugepages
    else nat_lt (longest (taken_row heap)) (hugepages_for n) && (not (suits_region heap.config n) || list_all (λ row. not (regions.has_room n row)) (region_rows heap))
