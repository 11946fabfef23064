-- What a reader of a text has yet to give, and what a table is read as so far.
use Rattle.std.proofs.Common.{◌≡◌, ℕ, ◌+◌, ◌-◌, ◌<◌, ◌≤◌, zero, suc, Bool, true, false, cond, List, [], ◌∷◌, ◌++◌, length, None, Some, Ok, Err, Bor, refl, ap, ◌∙◌, arith}
use Rattle.std.specs.Prelude.{Option, Result}
use Rattle.std.specs.Result.{result_map_both}
use Rattle.std.proofs.lemmas.List.{length_push}
use Rattle.std.proofs.lemmas.Bool.Decides.{nat_tests}
use Rattle.csv.specs.declared.parser.State.{State}
use Rattle.csv.specs.declared.parser.State.TheVariants as st
use Rattle.csv.specs.declared.parser.Action.{Action}
use Rattle.csv.specs.declared.reader.Reader.{Reader}
use Rattle.csv.specs.declared.reader.Trim.TheVariants as trim
use Rattle.csv.specs.Machine.{Read, next_record, ends_at_end, step, is_end, fields_after, field_after}
use Rattle.csv.specs.Reading.{Ready, Reached, ReadRecord, default_config, records, records_from, records_next, source_of, strip_bom}
use Rattle.csv.proofs.ReadFacts.{rows-more, rows-end}
use Rattle.tc_units.specs.declared.spans.ClassRow.{ClassRow}
use Rattle.size_classes.specs.declared.fault.TableFault.{TableFault}
use Rattle.size_classes.specs.declared.fault.TableFault.TheVariants.{BadRow}
use Rattle.size_classes.specs.declared.fault.RowWhy.{RowWhy}
use Rattle.size_classes.specs.declared.fault.RowWhy.TheVariants as why
use Rattle.size_classes.specs.Rows.{IsRow, AreRows}
use Rattle.size_classes.specs.Table.{table_of, rows_from, check_record}
use Rattle.size_classes.proofs.Sizes.{last_size, rows_push, last_push}

-- a step that ends a record leaves a state in which a text may end
record Leaves (p : State × Action) : Type 0 where
  leaves : is_end p.1 ≡ true → ends_at_end p.0 ≡ false

step_leaves : (s : State) (c : ℕ) → Leaves (step default_config s c)
step_leaves x0 c = grind (arith)

-- the end of a text may give one record more
abbrev one_more : State → ℕ
one_more s = cond (ends_at_end s) 1 0

most_one : (b : Bool) → cond b 1 0 ≤ 1
most_one true = omega arith
most_one false = omega arith

-- a record that was read took a byte, or the one that the end gives
record Fell (p : Read) (left : ℕ) : Type 0 where
  ended : ends_at_end p.1 ≡ false
  less : length p.2 + 1 ≤ left

falls : (s : State) (fields : List (List ℕ)) (field xs : List ℕ) (p : Read)
    → next_record default_config s fields field xs ≡ Some p → Fell p (length xs + one_more s)
unfolding next_record
falls s fields field [] p is = grind (arith)
falls s fields field (c ∷ rest) p is =
    let on : State × Action = step default_config s c in
    grind (arith, falls on.0 (fields_after on.1 fields field) (field_after on.1 c field) rest p, most_one (ends_at_end on.0), step_leaves s c)

records_step : (fuel : ℕ) (s : State) (xs : List ℕ) (p : Read) → 0 < fuel → next_record default_config s [] [] xs ≡ Some p
    → records_from default_config fuel s xs ≡ p.0 ∷ records_from default_config (fuel - 1) p.1 p.2
unfolding records_from
records_step zero s xs p some is = absurd (omega arith)
records_step (suc n) s xs p some is =
    let less : suc n - 1 ≡ n = omega arith in
    rw less (ap (records_next (records_from default_config n)) is)

records_done : (fuel : ℕ) (s : State) (xs : List ℕ) → next_record default_config s [] [] xs ≡ None
    → records_from default_config fuel s xs ≡ []
unfolding records_from
records_done zero s xs is = refl
records_done (suc n) s xs is = ap (records_next (records_from default_config n)) is

-- what a slice has left
abbrev pub told : Bor (List ℕ) → Option (List ℕ)
told s = Some s.now

-- these are the records that a reader of a slice has yet to give
pub record Unread (rdr : Reader (Bor (List ℕ))) (rest : List (List (List ℕ))) : Type 0 where
  pub text : List ℕ
  pub fuel : ℕ
  pub source : source_of told rdr ≡ Some text
  pub enough : length text + one_more rdr.state + 1 ≤ fuel
  pub rest_is : rest ≡ records_from default_config fuel rdr.state text
  pub config : rdr.config ≡ default_config
  pub plain : rdr.trim ≡ trim.None
  pub loose : rdr.flexible ≡ true
  pub ready : Ready rdr

-- the reader gave the first of them
pub unread_more : (a b : Reader (Bor (List ℕ))) (f : List (List ℕ)) (rest : List (List (List ℕ)))
    → Unread a rest → ReadRecord told a b true f → Ready b → b.flexible ≡ a.flexible
    → (later : List (List (List ℕ))) × (rest ≡ f ∷ later) × Unread b later
unfolding Reached
unread_more a b f rest u r ready kept =
    let g = rows-more told a b f default_config a.state u.text u.text [] u.config u.source (refl, refl) r in
    let z : List ℕ = g.0 in
    let p : Read = g.2.0 in
    let is : next_record default_config a.state [] [] u.text ≡ Some p = g.2.1 in
    let fields : f ≡ p.0 = g.2.2 in
    let last = g.2.3 in
    let state : p.1 ≡ b.state = last.0 in
    let left : p.2 ≡ z = last.1 in
    let fell : Fell p (length u.text + one_more a.state) = falls a.state [] [] u.text p is in
    let less : length p.2 + 1 ≤ length u.text + one_more a.state = fell.less in
    let enough : length u.text + one_more a.state + 1 ≤ u.fuel = u.enough in
    let some : 0 < u.fuel = omega arith in
    let step = records_step u.fuel a.state u.text p some is in
    let whole : rest ≡ records_from default_config u.fuel a.state u.text = u.rest_is in
    grind (arith)

-- the reader had none
pub unread_end : (a b : Reader (Bor (List ℕ))) (f : List (List ℕ)) (rest : List (List (List ℕ)))
    → Unread a rest → ReadRecord told a b false f → rest ≡ []
unread_end a b f rest u r =
    u.rest_is ∙ records_done u.fuel a.state u.text (rows-end told a b f default_config u.text u.config u.source r)

-- a reader of a text has all its records
pub unread_start : (rdr : Reader (Bor (List ℕ))) (text : List ℕ) → source_of told rdr ≡ Some text → rdr.state ≡ st.StartRecord
    → rdr.config ≡ default_config → rdr.trim ≡ trim.None → rdr.flexible ≡ true → Ready rdr → Unread rdr (records default_config text)
unread_start rdr text source state config plain loose ready =
    let none : one_more rdr.state ≡ 0 = ap one_more state in
    grind (arith)

-- rows and then those that a reading gives, or its fault
abbrev with_rows : List ClassRow → Result (List ClassRow) TableFault → Result (List ClassRow) TableFault
with_rows [] read = read
with_rows (row ∷ rows) read = result_map_both (λ more. row ∷ more) (λ fault. fault) (with_rows rows read)

with_rows_push : (rows : List ClassRow) (row : ClassRow) (read : Result (List ClassRow) TableFault)
    → with_rows rows (with_rows (row ∷ []) read) ≡ with_rows (rows ++ row ∷ []) read
with_rows_push [] row read = refl
with_rows_push (first ∷ rows) row read = ap (with_rows (first ∷ [])) (with_rows_push rows row read)

with_rows_fault : (rows : List ClassRow) (fault : TableFault) → with_rows rows (Err fault) ≡ Err fault
with_rows_fault [] fault = refl
with_rows_fault (first ∷ rows) fault = ap (with_rows (first ∷ [])) (with_rows_fault rows fault)

with_rows_end : (rows : List ClassRow) → with_rows rows (Ok []) ≡ Ok rows
with_rows_end [] = refl
with_rows_end (first ∷ rows) = ap (with_rows (first ∷ [])) (with_rows_end rows)

-- a text has been read as far as these rows, of which the last has this size
pub record Going (bytes : List ℕ) (rdr : Reader (Bor (List ℕ))) (rows : List ClassRow) (above : ℕ) : Type 0 where
  pub rest : List (List (List ℕ))
  pub unread : Unread rdr rest
  pub read : table_of bytes ≡ with_rows rows (rows_from (length rows + 1) above rest)
  pub last : above ≡ last_size 0 rows
  pub rules : AreRows 0 rows
  pub few : length rows ≤ 120

pub going_start : (bytes : List ℕ) (rdr : Reader (Bor (List ℕ))) → Unread rdr (records default_config (strip_bom bytes))
    → Going bytes rdr [] 0
going_start bytes rdr unread = record {
  rest = records default_config (strip_bom bytes);
  unread = unread;
  read = refl;
  last = refl;
  rules = tt;
  few = omega arith;
}

pub going_more : (bytes : List ℕ) (a b : Reader (Bor (List ℕ))) (rows : List ClassRow) (above : ℕ) (f : List (List ℕ)) (row : ClassRow)
    → Going bytes a rows above → ReadRecord told a b true f → Ready b → b.flexible ≡ a.flexible → check_record (length rows + 1) above f ≡ Ok row
    → IsRow row → above < row.size → length rows + 1 ≤ 120 → Going bytes b (rows ++ row ∷ []) row.size
going_more bytes a b rows above f row so r ready kept checked rules rises few =
    let u = unread_more a b f so.rest so.unread r ready kept in
    grind (arith, length_push rows row, with_rows_push rows row, last_push 0 rows row, rows_push 0 rows row so.rules rules)

pub going_bad : (bytes : List ℕ) (a b : Reader (Bor (List ℕ))) (rows : List ClassRow) (above : ℕ) (f : List (List ℕ)) (rule : RowWhy)
    → Going bytes a rows above → ReadRecord told a b true f → Ready b → b.flexible ≡ a.flexible → check_record (length rows + 1) above f ≡ Err rule
    → table_of bytes ≡ Err (BadRow (length rows + 1) rule)
going_bad bytes a b rows above f rule so r ready kept checked =
    grind (arith, unread_more a b f so.rest so.unread r ready kept, with_rows_fault rows (BadRow (length rows + 1) rule))

-- what the end of the records makes of the rows
pub going_end : (bytes : List ℕ) (a b : Reader (Bor (List ℕ))) (rows : List ClassRow) (above : ℕ) (f : List (List ℕ))
    → Going bytes a rows above → ReadRecord told a b false f → 0 < length rows → table_of bytes ≡ Ok rows
going_end bytes a b rows above f so r some = grind (arith, nat_tests, unread_end a b f so.rest so.unread r, with_rows_end rows)

pub going_empty : (bytes : List ℕ) (a b : Reader (Bor (List ℕ))) (rows : List ClassRow) (above : ℕ) (f : List (List ℕ))
    → Going bytes a rows above → ReadRecord told a b false f → length rows ≡ 0 → table_of bytes ≡ Err (BadRow 1 why.Empty)
going_empty bytes a b [] above f so r empty = grind (arith, unread_end a b f so.rest so.unread r)
going_empty bytes a b (row ∷ rows) above f so r empty = absurd (omega arith)
