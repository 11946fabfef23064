-- What holds of every heap that calls can reach.
use Rattle.std.specs.Prelude.{◌≡◌, ℕ, ◌+◌, ◌*◌, ◌<◌, ◌≤◌, Bool, true, false, length, count_by, List, All, Contains}
use Rattle.tc_units.specs.Units.{huge_pages, most_huge}
use Rattle.tc_units.specs.Arena.{IsInArena}
use Rattle.tc_units.specs.declared.spans.Run.{Run}
use Rattle.tc_units.specs.declared.rows.RowKind.{RowKind}
use Rattle.tc_units.specs.declared.rows.RowKind.TheVariants as kind
use Rattle.heap_rules.specs.declared.config.HeapConfig.{HeapConfig}
use Rattle.heap_rules.specs.Heap.{Heap, Hugepage, hugepage, whole, holds, is_used, is_backed, is_filler, is_region, spans}

-- the limits that a heap may be opened with
pub record AreLimits (config : HeapConfig) : Type 0 where
  pub huge_from : 1 ≤ config.huge
  pub huge_to : config.huge ≤ most_huge
  pub cache : config.cache ≤ most_huge
  pub region_from : 2 ≤ config.region
  pub region_to : config.region ≤ 512
  pub slack : config.slack ≤ 1048576
  pub window : config.window ≤ 65536

-- a run has pages, and all of them lie in the arena
abbrev pub IsInside : ℕ → Run → Type 0
IsInside huge run = IsInArena huge_pages huge run.first.0 run.pages

-- a page of hugepage h
pub record IsPageOf (h : ℕ) (page : ℕ) : Type 0 where
  pub from : huge_pages * h ≤ page
  pub to : page < huge_pages * h + huge_pages

-- a hugepage of the arena
pub record IsHugepageOf (huge : ℕ) (h : ℕ) : Type 0 where
  pub from : 0 < h
  pub to : h ≤ huge

-- no page of hugepage h is used, some page is, one live run holds all its pages
abbrev pub HasNoUsed : List Run → ℕ → Type 0
HasNoUsed runs h = (page : ℕ) → IsPageOf h page → is_used runs page ≡ false

pub record HasUsed (runs : List Run) (h : ℕ) : Type 0 where
  pub page : ℕ
  pub own : IsPageOf h page
  pub used : is_used runs page ≡ true

pub record HasOneRun (runs : List Run) (h : ℕ) : Type 0 where
  pub run : Run
  pub live : Contains runs run
  pub from : run.first.0 ≤ huge_pages * h
  pub to : huge_pages * h + huge_pages ≤ run.first.0 + run.pages

-- a hugepage is backed whole or not at all
abbrev pub IsBackedEvenly : Hugepage → Type 0
IsBackedEvenly x = (b : Bool) × (x.backed ≡ whole b)

-- hugepage h lies in a region
pub record LiesInRegion (regions : List ℕ) (width : ℕ) (h : ℕ) : Type 0 where
  pub region : ℕ
  pub known : Contains regions region
  pub spanned : spans width h region ≡ true

-- What hugepage h, which is x, serves agrees with the runs and the regions.
abbrev pub Serves : List Run → List ℕ → ℕ → ℕ → Hugepage → RowKind → Type 0
Serves runs regions width h x kind.Free = HasNoUsed runs h × IsBackedEvenly x
Serves runs regions width h x kind.Filler = HasUsed runs h
Serves runs regions width h x kind.Run = HasOneRun runs h × (x.backed ≡ whole true)
Serves runs regions width h x kind.Region = LiesInRegion regions width h × IsBackedEvenly x

pub record IsFit (runs : List Run) (regions : List ℕ) (width : ℕ) (h : ℕ) (x : Hugepage) : Type 0 where
  pub size : length x.backed ≡ huge_pages
  pub serves : Serves runs regions width h x x.kind
  pub donated : x.donated ≡ true → is_filler x ≡ true

-- a region lies in the arena, each of its hugepages serves regions, and one has a used page
pub record IsRegion (heap : Heap) (r : ℕ) : Type 0 where
  pub from : 0 < r
  pub to : r + heap.config.region ≤ heap.config.huge + 1
  pub kinds : (h : ℕ) → spans heap.config.region h r ≡ true → is_region (hugepage heap h) ≡ true
  pub page : ℕ
  pub own : huge_pages * r ≤ page
  pub own_to : page < huge_pages * r + huge_pages * heap.config.region
  pub used : is_used heap.runs page ≡ true

-- Live runs are disjoint and inside the arena, and each of their pages is backed. Each hugepage serves what its runs
-- and the regions say, and regions are apart.
pub record AreRunsSound (heap : Heap) : Type 0 where
  pub arena : length heap.hugepages ≡ heap.config.huge
  pub disjoint : (page : ℕ) → count_by (holds page) heap.runs ≤ 1
  pub inside : All (IsInside heap.config.huge) heap.runs
  pub backed : (page : ℕ) → is_used heap.runs page ≡ true → is_backed heap page ≡ true
  pub fit : (h : ℕ) → IsHugepageOf heap.config.huge h → IsFit heap.runs heap.regions heap.config.region h (hugepage heap h)
  pub apart : (h : ℕ) → count_by (spans heap.config.region h) heap.regions ≤ 1

-- and each region has a used page
pub record IsSound (heap : Heap) : Type 0 where
  pub runs : AreRunsSound heap
  pub regions : All (IsRegion heap) heap.regions
