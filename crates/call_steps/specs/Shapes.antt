-- The class table as far as the call programs go, and what is in hand.
use Rattle.std.specs.Prelude.{◌≡◌, ℕ, ◌*◌, ◌<◌, ◌≤◌, List, [], ◌∷◌, length, All}
use Rattle.tc_units.specs.Units.{page_bytes}
use Rattle.tc_units.specs.Classes.{most_batch, most_object_bytes, most_rows, most_span_pages}
use Rattle.tc_units.specs.declared.units.Addr.{Addr}
use Rattle.tc_units.specs.declared.spans.ClassRow.{ClassRow}

-- the rows of a class table, as far as the call programs go
pub record IsClassRow (row : ClassRow) : Type 0 where
  pub size : 0 < row.size
  pub small : row.size ≤ most_object_bytes
  pub pages : 0 < row.pages
  pub most : row.pages ≤ most_span_pages
  pub fits : row.size ≤ row.pages * page_bytes
  pub batch : 0 < row.batch
  pub few : row.batch ≤ most_batch

pub record AreRows (rows : List ClassRow) : Type 0 where
  pub some : 0 < length rows
  pub few : length rows ≤ most_rows
  pub each : All IsClassRow rows

-- how many objects of one class are in hand at most
abbrev pub most_slots : ℕ
most_slots = 2048

-- an object that is to be freed comes first in the hand
abbrev pub BeginsWith : Addr → List Addr → Type 0
BeginsWith a [] = ⊥
BeginsWith a (x ∷ others) = x ≡ a
