-- The runs that a table notes, by where they begin and end.
use Rattle.std.specs.Prelude.{◌≡◌, ℕ, ◌+◌, ◌≤◌, Bool, false, not, List, [], ◌∷◌, length, drop, filter, map}
use Rattle.std.specs.List.{list_any, range_with_len, prefix_len}
use Rattle.tc_units.specs.declared.spans.Run.{Run}
use Rattle.heap_rules.specs.Heap.{Heap, run_at, with_run, without_run}
use Rattle.heap_rules.specs.Sound.{IsSound}
use Rattle.huge_table.specs.Table.{Table, bit}
use Rattle.huge_table.specs.Means.{Means, begins_on}

-- the run that begins on a page: it ends on the first page from there on that ends one
abbrev pub run_from : List Bool → ℕ → Run
run_from ends page = run_at page (prefix_len not (drop page ends) + 1)

abbrev pub runs_of : Table → List Run
runs_of table = map (run_from table.ends) (filter (bit table.begins) (range_with_len 0 (length table.begins)))

-- runs in the order of their first pages, of which none begins before a page
abbrev pub AreInOrderFrom : ℕ → List Run → Type 0
AreInOrderFrom page [] = Unit
AreInOrderFrom page (run ∷ runs) = (page ≤ run.first.0) × AreInOrderFrom (run.first.0 + 1) runs

abbrev pub AreInOrder : List Run → Type 0
AreInOrder runs = AreInOrderFrom 0 runs

-- A table tells the live runs of each sound heap that it means, in their order; and runs stay in order when one comes or
-- leaves.
pub record TellsRuns (table : Table) : Type 0 where
  pub told : (heap : Heap) → IsSound heap → AreInOrder heap.runs → Means table heap → runs_of table ≡ heap.runs
  pub with_one : (run : Run) (runs : List Run) → AreInOrder runs → list_any (begins_on run.first.0) runs ≡ false → AreInOrder (with_run run runs)
  pub without_one : (run : Run) (runs : List Run) → AreInOrder runs → AreInOrder (without_run run runs)
