-- The rules of the rows of a class table.
use Rattle.std.specs.Prelude.{◌≡◌, ℕ, ◌*◌, ◌%◌, ◌<◌, ◌≤◌, List, [], ◌∷◌, length, map, slice_get}
use Rattle.tc_units.specs.Units.{page_bytes}
use Rattle.tc_units.specs.Classes.{class_of, most_object_bytes, most_rows, most_span_pages, size_step}
use Rattle.tc_units.specs.Classes as classes
use Rattle.tc_units.specs.declared.spans.ClassRow.{ClassRow}
use Rattle.tc_units.specs.declared.units.Class.{Class}

-- the rules of one row alone
pub record IsRow (row : ClassRow) : Type 0 where
  pub aligned : row.size % size_step ≡ 0
  pub least_size : size_step ≤ row.size
  pub most_size : row.size ≤ most_object_bytes
  pub least_pages : 1 ≤ row.pages
  pub most_pages : row.pages ≤ most_span_pages
  pub fits : row.size ≤ row.pages * page_bytes
  pub least_batch : 1 ≤ row.batch
  pub most_batch : row.batch ≤ classes.most_batch

-- each row is one by its rules, and the sizes rise from above this one on
abbrev pub AreRows : ℕ → List ClassRow → Type 0
AreRows above [] = Unit {0}
AreRows above (row ∷ rows) = IsRow row × (above < row.size) × AreRows row.size rows

-- a table has 1 to 120 rows of rising sizes
pub record IsTable (rows : List ClassRow) : Type 0 where
  pub some : 1 ≤ length rows
  pub most : length rows ≤ most_rows
  pub rows_rise : AreRows 0 rows

-- the sizes of the rows
abbrev pub sizes_of : List ClassRow → List ℕ
sizes_of rows = map (λ (row : ClassRow). row.size) rows

-- the classes of the multiples of 8 bytes, from 0 on, as far as they have one
abbrev pub AreClasses : List ClassRow → List Class → Type 0
AreClasses rows classes = (k : ℕ) → slice_get classes k ≡ class_of rows (8 * k)
