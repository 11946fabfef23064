-- Where an act finds the world.
use Rattle.std.specs.Prelude.{◌≡◌, ℕ, ◌≤◌, List, Some, slice_get}
use Rattle.tc_model.specs.declared.calls.Planned.{Planned}
use Rattle.tc_model.specs.declared.answers.CallLine.{CallLine}
use Rattle.tc_model.specs.Input.{labels_of, Asked}
use Rattle.heap_rules.specs.declared.config.HeapConfig.{HeapConfig}
use Rattle.holdings.specs.Books.{Setup, Books}
use Rattle.holdings.specs.Facts.{Facts}
use Rattle.call_steps.specs.Local.{Local}
use Rattle.call_steps.specs.Calls.{About}
use Rattle.call_steps.specs.Shapes.{AreRows}
use Rattle.call_steps.specs.Fronts.{FrontRules}
use Rattle.alloc_rules.specs.Machine.{Parts}
use Rattle.alloc_rules.specs.Stocks.{ArePartsOk, AreBooksOf}
use Rattle.alloc_rules.specs.Shapes.{IsShaped}

-- the setup of the books: so many hugepages and labels, and the front-end's table; and that of a trace
abbrev pub setup : {P V R : Type 0} → FrontRules P V R → ℕ → ℕ → Setup
setup r huge labels = record { huge = huge; labels = labels; rows = r.calls.rows }

abbrev pub setup_of : {P V R : Type 0} → FrontRules P V R → Asked → Setup
setup_of r asked = setup r asked.config.huge (labels_of asked)

-- a sound table, parts and books, and the thread's local with its shape
pub record IsBefore {P V R : Type 0} (r : FrontRules P V R) (about : R → About) (planned : Planned → Type 0) (huge labels : ℕ) (limits : HeapConfig) (p : Parts P) (locals : List (Local V R)) (b : Books) (calls : List CallLine) (t : ℕ) (l : Local V R) : Type 0 where
  pub rows : AreRows r.calls.rows
  pub parts : ArePartsOk r.calls.rows limits p
  pub same : limits.huge ≡ huge
  pub few : huge ≤ 4096
  pub region : 2 ≤ limits.region
  pub books : AreBooksOf r about p locals b
  pub facts : Facts (setup r huge labels) b calls
  pub local : slice_get locals t ≡ Some l
  pub shaped : IsShaped r.calls.rows about planned t l
