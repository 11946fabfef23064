-- What a text reads as: a table, or its first bad record with the first rule that it breaks.
use Rattle.std.specs.Prelude.{◌≡◌, ℕ, ◌+◌, ◌*◌, ◌%◌, ◌==◌, ◌||◌, nat_le, nat_lt, List, [], ◌∷◌, map, Option, Some, Result, Ok, Err, if◌then◌else◌}
use Rattle.std.specs.Result.{result_map_both}
use Rattle.csv.specs.Reading.{default_config, records, strip_bom}
use Rattle.tc_units.specs.Classes.{most_batch, most_object_bytes, most_rows, most_span_pages, size_step}
use Rattle.tc_units.specs.Decimal.{number_of}
use Rattle.tc_units.specs.Units.{page_bytes}
use Rattle.tc_units.specs.declared.spans.ClassRow.{ClassRow}
use Rattle.size_classes.specs.declared.fault.TableFault.{TableFault}
use Rattle.size_classes.specs.declared.fault.TableFault.TheVariants.{BadRow, Memory}
use Rattle.size_classes.specs.declared.fault.RowWhy.{RowWhy}
use Rattle.size_classes.specs.declared.fault.RowWhy.TheVariants as why

-- the greatest number of a field
abbrev pub most_number : ℕ
most_number = 1000000

-- the rules on the numbers of a record, after a row of a size
abbrev pub check_numbers : ℕ → ℕ → ℕ → ℕ → Result ClassRow RowWhy
check_numbers above size pages batch =
    if nat_lt size size_step || nat_lt most_object_bytes size || nat_lt 0 (size % size_step) then Err why.Size
    else if nat_le size above then Err why.Rise
    else if nat_lt pages 1 || nat_lt most_span_pages pages then Err why.Pages
    else if nat_lt (pages * page_bytes) size then Err why.Fit
    else if nat_lt batch 1 || nat_lt most_batch batch then Err why.Batch
    else Ok (record { size = size; pages = pages; batch = batch })

-- the rules on the fields of a record, each as the number that it has or none, after a row of a size
abbrev pub check_fields : ℕ → List (Option ℕ) → Result ClassRow RowWhy
check_fields above (Some size ∷ Some pages ∷ Some batch ∷ []) = check_numbers above size pages batch
check_fields above (size ∷ pages ∷ batch ∷ []) = Err why.Number
check_fields above fields = Err why.Fields

-- the row of the record with this number, after a row of a size, or the first rule that it breaks
abbrev pub check_record : ℕ → ℕ → List (List ℕ) → Result ClassRow RowWhy
check_record number above fields = if nat_lt most_rows number then Err why.Rows else check_fields above (map (number_of most_number) fields)

-- the rows from a record on, where that record is read with this result: its row and then those after it, or what is wrong
abbrev pub rows_after : ℕ → Result ClassRow RowWhy → (ℕ → Result (List ClassRow) TableFault) → Result (List ClassRow) TableFault
rows_after number (Ok row) more = result_map_both (λ rows. row ∷ rows) (λ fault. fault) (more row.size)
rows_after number (Err rule) more = Err (BadRow number rule)

-- the rows of records from this number on, after a row of a size, up to the first bad one
abbrev pub rows_from : ℕ → ℕ → List (List (List ℕ)) → Result (List ClassRow) TableFault
rows_from number above [] = if number == 1 then Err (BadRow 1 why.Empty) else Ok []
rows_from number above (fields ∷ later) =
    rows_after number (check_record number above fields) (λ size. rows_from (number + 1) size later)

-- what a text reads as, by its records as csv reads them
abbrev pub table_of : List ℕ → Result (List ClassRow) TableFault
table_of bytes = rows_from 1 0 (records default_config (strip_bom bytes))

-- a fault is the one that the text has, or memory ran out
abbrev pub IsFaultOf : Result (List ClassRow) TableFault → TableFault → Type 0
IsFaultOf read (BadRow number rule) = read ≡ Err (BadRow number rule)
IsFaultOf read Memory = Unit {0}
