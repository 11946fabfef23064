-- Which ends a step can have.
use Rattle.std.proofs.Common.{◌≡◌, ℕ, Bool, false, List, Option, Some, None, Result, Ok, Err, subst, arith}
use Rattle.std.specs.Result.{result_map_both}
use Rattle.tc_units.specs.declared.spans.ClassRow.{ClassRow}
use Rattle.size_classes.specs.declared.fault.RowWhy.{RowWhy}
use Rattle.size_classes.specs.declared.fault.TableFault.{TableFault}
use Rattle.size_classes.specs.declared.fault.TableFault.TheVariants as table
use Rattle.size_classes.specs.Table.{table_of}
use Rattle.trace_reader.specs.declared.why.LineWhy.{LineWhy}
use Rattle.trace_reader.specs.declared.why.OrderWhy.{OrderWhy}
use Rattle.tcreplay.specs.declared.outcome.End.{End}
use Rattle.tcreplay.specs.declared.outcome.End.TheVariants.{BadTable, BadTrace, Memory, TooLong, BadOrder, FileFault}
use Rattle.tcreplay.specs.Tasks.{Replay}
use Rattle.tcreplay.specs.Auditing.{case_in}
use Rattle.tcreplay.specs.Verdict.{Given, and_then, within, file_within, table_end, rows_in, job_of}

-- a test that no end of the reading passes
pub record Fails (p : End → Bool) : Type 0 where
  pub missing : p FileFault ≡ false
  pub memory : p Memory ≡ false
  pub long : (limit : ℕ) → p (TooLong limit) ≡ false

-- of a class table
pub record FailsTable (p : End → Bool) : Type 0 where
  pub all : Fails p
  pub bad : (row : ℕ) (why : RowWhy) → p (BadTable row why) ≡ false

pub record FailsJob (p : End → Bool) : Type 0 where
  pub table : FailsTable p
  pub trace : (line : ℕ) (why : LineWhy) → p (BadTrace line why) ≡ false
  pub order : (line : ℕ) (why : OrderWhy) → p (BadOrder line why) ≡ false

-- each end of a step fails the test
abbrev Ends : {A : Type 0} → (End → Bool) → Result A End → Type 0
Ends p (Ok given) = Unit {0}
Ends p (Err end) = p end ≡ false

then_ends : {A B : Type 0} (p : End → Bool) (next : A → Result B End) (r : Result A End) → Ends p r → ((a : A) → Ends p (next a)) → Ends p (and_then next r)
then_ends p next (Ok a) first later = later a
then_ends p next (Err end) first later = first

or_ends : {A F : Type 0} (p : End → Bool) (end_of : F → End) (r : Result A F) → ((fault : F) → p (end_of fault) ≡ false) → Ends p (result_map_both (λ (a : A). a) end_of r)
or_ends p end_of (Ok a) each = tt
or_ends p end_of (Err fault) each = each fault

within_ends : (p : End → Bool) (limit : ℕ) (bytes : List ℕ) → p (TooLong limit) ≡ false → Ends p (within limit bytes)
within_ends p limit bytes long = grind (arith)

file_ends : (p : End → Bool) (limit : ℕ) (file : Option (List ℕ)) → Fails p → Ends p (file_within limit file)
file_ends p limit None fails = fails.missing
file_ends p limit (Some bytes) fails = within_ends p limit bytes (fails.long limit)

table_end_is : (p : End → Bool) → FailsTable p → (fault : TableFault) → p (table_end fault) ≡ false
table_end_is p fails (table.BadRow row why) = fails.bad row why
table_end_is p fails table.Memory = fails.all.memory

rows_ends : (p : End → Bool) (file : Option (List ℕ)) → FailsTable p → Ends p (rows_in file)
rows_ends p file fails = then_ends p (λ bytes. result_map_both (λ (rows : List ClassRow). rows) table_end (table_of bytes)) (file_within 65536 file) (file_ends p 65536 file fails.all) (λ bytes. or_ends p table_end (table_of bytes) (table_end_is p fails))

job_ends : (p : End → Bool) (replay : Replay) (given : Given) → FailsJob p → Ends p (job_of replay given)
job_ends p replay given fails = grind (arith)

case_ends : (p : End → Bool) (given : Given) → FailsJob p → Ends p (case_in given)
case_ends p given fails = grind (arith)

-- an end that a class table, or the reading, came to fails the test
pub table_fails : (p : End → Bool) (file : Option (List ℕ)) (end : End) → FailsTable p → rows_in file ≡ Err end → p end ≡ false
table_fails p file end fails is = subst (Ends p) is (rows_ends p file fails)

pub job_fails : (p : End → Bool) (replay : Replay) (given : Given) (end : End) → FailsJob p → job_of replay given ≡ Err end → p end ≡ false
job_fails p replay given end fails is = subst (Ends p) is (job_ends p replay given fails)

pub case_fails : (p : End → Bool) (given : Given) (end : End) → FailsJob p → case_in given ≡ Err end → p end ≡ false
case_fails p given end fails is = subst (Ends p) is (case_ends p given fails)
