-- By which route a live run was placed.
use Rattle.std.specs.Prelude.{◌≡◌, ℕ, ◌+◌, ◌*◌, ◌/◌, ◌%◌, ◌<◌, ◌≤◌, ◌⊎◌, Contains}
use Rattle.tc_units.specs.Units.{huge_pages}
use Rattle.tc_units.specs.declared.spans.Run.{Run}
use Rattle.tc_units.specs.declared.rows.RowKind.TheVariants as kind
use Rattle.heap_rules.specs.Heap.{Heap, hugepage}

-- A live run was placed by one route: in one hugepage of the filler; in whole hugepages from the start of one on, with
-- what is left in one of the filler; or in one region.
pub record IsInOneHugepage (heap : Heap) (run : Run) : Type 0 where
  pub filler : (hugepage heap (run.first.0 / huge_pages)).kind ≡ kind.Filler
  pub ends : run.first.0 % huge_pages + run.pages ≤ huge_pages
  pub below : run.pages < huge_pages

pub record IsInHugepages (heap : Heap) (run : Run) : Type 0 where
  pub begins : run.first.0 % huge_pages ≡ 0
  pub long : huge_pages ≤ run.pages
  pub whole : (h : ℕ) → run.first.0 ≤ huge_pages * h → huge_pages * h + huge_pages ≤ run.first.0 + run.pages → (hugepage heap h).kind ≡ kind.Run
  pub tail : (h : ℕ) → huge_pages * h < run.first.0 + run.pages → run.first.0 + run.pages < huge_pages * h + huge_pages → (hugepage heap h).kind ≡ kind.Filler

pub record IsInRegion (heap : Heap) (run : Run) : Type 0 where
  pub region : ℕ
  pub known : Contains heap.regions region
  pub from : huge_pages * region ≤ run.first.0
  pub to : run.first.0 + run.pages ≤ huge_pages * (region + heap.config.region)

abbrev pub IsRouted : Heap → Run → Type 0
IsRouted heap run = IsInOneHugepage heap run ⊎ (IsInHugepages heap run ⊎ IsInRegion heap run)
