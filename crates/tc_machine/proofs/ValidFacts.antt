-- What is read is valid for the allocator's rules.
use Rattle.std.proofs.Common.{◌≡◌, ℕ, ◌<◌, true, false, List, [], ◌∷◌, length, Option, Some, None, refl, sym, subst, arith}
use Rattle.std.specs.Prelude.{Bool, IfSome, sum_by, All}
use Rattle.std.specs.List.{list_any}
use Rattle.std.proofs.lemmas.List.Elements.{All-cons, All-nil}
use Rattle.std.proofs.lemmas.List.Sums.{sum_by-cons}
use Rattle.std.proofs.lemmas.Bool.Decides.{nat_tests}
use Rattle.tc_units.specs.declared.spans.ClassRow.{ClassRow}
use Rattle.tc_model.specs.declared.calls.Call.{Call}
use Rattle.tc_model.specs.declared.calls.MoveTo.{MoveTo}
use Rattle.tc_model.specs.declared.config.Config.{Config}
use Rattle.tc_model.specs.declared.config.Head.TheVariants.{Cpus, Threads, Huge, Cache, Region, Slack, Slab, Percpu, Window}
use Rattle.tc_model.specs.Blocks.{allocates, frees}
use Rattle.tc_model.specs.Input.{Asked, ThreadCall}
use Rattle.size_classes.specs.Rows as table
use Rattle.trace_reader.specs.declared.trace.Trace.{Trace}
use Rattle.trace_reader.specs.Valid as reads
use Rattle.holdings.specs.Runs.{bit}
use Rattle.holdings.specs.Accounts.{got, put}
use Rattle.call_steps.specs.Shapes.{IsClassRow, AreRows}
use Rattle.heap_rules.specs.Sound as heaps
use Rattle.alloc_rules.specs.Machine.{heap_config}
use Rattle.alloc_rules.specs.Inputs.{Limits, IsMove, IsCallThere, IsValidInput}
use Rattle.alloc_rules.specs.Valid.{IsInOrder, AreLimits}
use Rattle.tc_machine.specs.Inputs.{IsRead, input_of}
use Rattle.tc_machine.proofs.InputFacts.{input_is}

-- a count of calls that pass a test is 0 exactly where none does
module _ (p : ThreadCall → Bool) (f : ThreadCall → ℕ) (same : (c : ThreadCall) → f c ≡ bit (p c)) where
  pub none_counted : (cs : List ThreadCall) → list_any p cs ≡ false → sum_by f cs ≡ 0
  none_counted [] none = refl
  none_counted (c ∷ cs) none = grind (arith, nat_tests, none_counted cs, sum_by-cons)

  pub some_counted : (cs : List ThreadCall) → list_any p cs ≡ true → 0 < sum_by f cs
  some_counted [] some = absurd (cc)
  some_counted (c ∷ cs) some = grind (arith, nat_tests, some_counted cs, sum_by-cons)

got_is : (x : ℕ) (c : Call) → got x c ≡ bit (allocates x c)
got_is x c = grind (arith)

put_is : (x : ℕ) (c : Call) → put x c ≡ bit (frees x c)
put_is x c = grind (arith)

order_of : (classes : ℕ) (config : Config) (earlier : List ThreadCall) (call : Call) → reads.IsCall classes config earlier call → IsInOrder earlier call
order_of classes config earlier call read = grind (arith, none_counted, got_is, some_counted, put_is)

-- the CPU and the class of a call are there, and so is the CPU of a move
there_of : (m : Limits) (config : Config) (earlier : List ThreadCall) (call : Call) → m.cpus ≡ config.cpus → reads.IsCall (length m.rows) config earlier call → IsCallThere m call
there_of m config earlier call same read = grind (arith)

move_of : (m : Limits) (config : Config) (moved : Option MoveTo) → m.cpus ≡ config.cpus → IfSome moved (reads.IsMove config) → IsMove m moved
move_of m config None same read = tt
move_of m config (Some move) same read = omega (arith, same, read.cpu)

-- the rows of a table
row_of : (row : ClassRow) → table.IsRow row → IsClassRow row
row_of row is =
    record {
      size = omega (arith, is.least_size);
      small = is.most_size;
      pages = omega (arith, is.least_pages);
      most = is.most_pages;
      fits = is.fits;
      batch = omega (arith, is.least_batch);
      few = is.most_batch;
    }

all_rows : (above : ℕ) (rows : List ClassRow) → table.AreRows above rows → All IsClassRow rows
all_rows above [] are = All-nil IsClassRow
all_rows above (row ∷ rows) are = All-cons IsClassRow row rows (row_of row are.0) (all_rows row.size rows are.2)

rows_of : (rows : List ClassRow) → table.IsTable rows → AreRows rows
rows_of rows is = record { some = omega (arith, is.some); few = is.most; each = all_rows 0 rows is.rows_rise }

-- the limits of a trace, as the core with its front-ends and the page heap need them
pub heads_of : (config : Config) → reads.IsConfig config → AreLimits config
heads_of config is = grind (arith, is Cpus, is Threads, is Huge, is Region, (is Slab), is Percpu)

pub heap_heads_of : (config : Config) → reads.IsConfig config → heaps.AreLimits (heap_config config)
heap_heads_of config is = grind (arith, is Huge, is Cache, is Region, is Slack, is Window)

valid_asked : (rows : List ClassRow) (asked : Asked) → table.IsTable rows → reads.IsAsked (length rows) asked → IsValidInput (record { rows = rows; asked = asked })
valid_asked rows asked is valid = grind (arith, rows_of, heads_of, there_of, move_of, order_of)

pub valid_read : (rows : List ClassRow) (trace : Trace) (asked : Asked) → table.IsTable rows → IsRead (length rows) trace asked → IsValidInput (input_of rows trace)
valid_read rows trace asked is read = subst IsValidInput (sym (input_is rows (length rows) trace asked read)) (valid_asked rows asked is read.valid)
