-- What words and inputs come to, step by step: the words, the class table, the trace, the order file, the run. Each step
-- either ends the work or gives what the next one needs.
use Rattle.std.specs.Prelude.{ℕ, Bool, nat_lt, List, [], ◌++◌, length, is_none, Option, Some, None, Result, Ok, Err, if◌then◌else◌}
use Rattle.std.specs.List.{list_all}
use Rattle.std.specs.Option.{option_map_or}
use Rattle.std.specs.Result.{result_map_both}
use Rattle.tc_units.specs.declared.spans.ClassRow.{ClassRow}
use Rattle.tc_model.specs.declared.answers.Finished.{Finished}
use Rattle.tc_model.specs.Input.{Input, Asked, scripts_of}
use Rattle.tc_model.specs.Run.{Rules, World, run}
use Rattle.tc_model.specs.Serial.{order_of}
use Rattle.size_classes.specs.declared.fault.TableFault.{TableFault}
use Rattle.size_classes.specs.declared.fault.TableFault.TheVariants as table
use Rattle.size_classes.specs.Table.{table_of}
use Rattle.trace_reader.specs.declared.why.LineWhy.TheVariants.{NotHere}
use Rattle.trace_reader.specs.Reading.{asked_by}
use Rattle.trace_reader.specs.Orders.{picks_by}
use Rattle.alloc_rules.specs.Machine.{turns}
use Rattle.tc_machine.specs.Taken.{refused_line}
use Rattle.tc_model.specs.declared.answers.CallLine.{CallLine}
use Rattle.heap_sample.specs.Lines.{profile_of_calls}
use Rattle.usage_report.specs.Report.{text_of, summary_of}
use Rattle.tcreplay.specs.declared.run.Telling.{Telling}
use Rattle.tcreplay.specs.declared.run.Telling.TheVariants.{Whole, Summary}
use Rattle.tcreplay.specs.declared.outcome.End.{End}
use Rattle.tcreplay.specs.declared.outcome.End.TheVariants.{Done, BadTable, BadTrace, Memory, TooLong, Full, BadOrder, FileFault}
use Rattle.tcreplay.specs.Tasks.{Front, Replay, file_of}
use Rattle.tcreplay.specs.Machines.{Machine, machine_of}

-- a step behind one that gave what it needs
abbrev pub and_then : {A B : Type 0} → (A → Result B End) → Result A End → Result B End
and_then next (Ok given) = next given
and_then next (Err end) = Err end

-- the most bytes of a class table, and of a trace, an order file or a journal
abbrev pub table_limit : ℕ
table_limit = 65536

abbrev pub trace_limit : ℕ
trace_limit = 67108864

-- bytes, where they aren't too many
abbrev pub within : ℕ → List ℕ → Result (List ℕ) End
within limit bytes = if nat_lt limit (length bytes) then Err (TooLong limit) else Ok bytes

-- the bytes of a file, where it is there
abbrev pub file_within : ℕ → Option (List ℕ) → Result (List ℕ) End
file_within limit None = Err FileFault
file_within limit (Some bytes) = within limit bytes

-- the class table: its rows, or its first bad row
abbrev pub table_end : TableFault → End
table_end (table.BadRow row why) = BadTable row why
table_end table.Memory = Memory

abbrev pub rows_in : Option (List ℕ) → Result (List ClassRow) End
rows_in file = and_then (λ bytes. result_map_both (λ rows. rows) table_end (table_of bytes)) (file_within table_limit file)

-- the trace: what it asks for, or its first bad line
abbrev pub asked_of_text : List ClassRow → List ℕ → Result Asked End
asked_of_text rows text = result_map_both (λ asked. asked) (λ bad. BadTrace bad.line bad.why) (asked_by (length rows) text)

-- of which a machine that is to run it takes each call, or the first that it doesn't take ends the work; no machine runs
-- the trace of a journal
abbrev pub taken_by : Option Front → Asked → Result Asked End
taken_by None asked = Ok asked
taken_by (Some front) asked =
    option_map_or (λ line. Err (BadTrace line NotHere)) (refused_line (machine_of front).takes (scripts_of asked)) (Ok asked)

abbrev pub asked_in : Option Front → List ClassRow → List ℕ → Result Asked End
asked_in runner rows bytes = and_then (λ text. and_then (taken_by runner) (asked_of_text rows text)) (within trace_limit bytes)

-- the order file: the thread of each of its picks, or its first bad line
abbrev pub picks_in : ℕ → Option (List ℕ) → Result (List ℕ) End
picks_in threads file =
    and_then (λ bytes. result_map_both (λ picks. picks) (λ bad. BadOrder bad.line bad.why) (picks_by threads bytes)) (file_within trace_limit file)

-- what was given: the class table, the trace, the file that is loaded behind it (an order file, or a journal), and the
-- picks that worker threads made; a file that isn't there is None
pub record Given : Type 0 where
  pub table : Option (List ℕ)
  pub trace : List ℕ
  pub file : Option (List ℕ)
  pub came : List ℕ

-- what comes of the class table, the trace and what is behind them together
abbrev pub read_of : {J : Type 0} → Option Front → (Given → List ClassRow → Asked → Result J End) → Given → Result J End
read_of runner behind given = and_then (λ rows. and_then (behind given rows) (asked_in runner rows given.trace)) (rows_in given.table)

-- what is run, and the picks that come first: those of the order file, where one is named, and else those that came
pub record Job : Type 0 where
  pub input : Input
  pub picks : List ℕ

abbrev pub job_with : Replay → Given → List ClassRow → Asked → Result Job End
job_with replay given rows asked =
    and_then (λ picks. Ok (record { input = record { rows = rows; asked = asked }; picks = picks }))
    (option_map_or (λ name. picks_in asked.config.threads given.file) (file_of replay.schedule) (Ok given.came))

abbrev pub job_of : Replay → Given → Result Job End
job_of replay = read_of (Some replay.front) (job_with replay)

-- how the work ends where no call of an end fails and memory suffices, the order of the picks that moved, and the text
pub record Verdict : Type 0 where
  pub end : End
  pub order : List ℕ
  pub text : List ℕ

-- an end before the run
abbrev pub refused : End → Verdict
refused end = record { end = end; order = []; text = [] }

-- the profile of the allocations that are sampled, where some are
abbrev pub profile_if : Option ℕ → List CallLine → List ℕ
profile_if None calls = []
profile_if (Some step) calls = profile_of_calls step calls

-- the text of a run that has ended, with or without a line for each hugepage, and with or without a profile
abbrev pub text_with : Bool → Option ℕ → Finished → List ℕ
text_with rows sample f = text_of f.calls f.live f.live_bytes f.used f.resident (if rows then f.rows else []) ++ profile_if sample f.calls

-- the last five lines of a text without hugepages
abbrev pub summary_in : Finished → List ℕ
summary_in f = summary_of (length f.calls) f.live f.live_bytes f.used f.resident

-- what is told of a run that has ended: its text, or its summary alone
abbrev pub told_by : Telling → Finished → List ℕ
told_by (Whole rows sample) f = text_with rows sample f
told_by Summary f = summary_in f

-- whether all scripts have ended
abbrev pub have_ended : {P L : Type 0} → Rules P L → World P L → Bool
have_ended r w = list_all (λ l. is_none (r.want l)) w.locals

-- Over the rules of a machine, and what a run of it tells:
module _ {P L : Type 0} (rules : Input → Rules P L) where
  -- the order of a job: its picks, and then the rest in trace order, up to the limit
  abbrev pub order_by : Job → List ℕ
  order_by job = order_of (rules job.input) (turns job.input.asked) job.input.asked.config.events job.picks

  -- the verdict on an order: the run has ended, or it stands at the limit
  abbrev pub judged_by : (Input → List ℕ → Finished) → Telling → Input → List ℕ → Verdict
  judged_by told telling input order =
      if have_ended (rules input) (run (rules input) order)
      then record { end = Done; order = order; text = told_by telling (told input order) }
      else record { end = Full input.asked.config.events; order = order; text = [] }

-- over a machine
abbrev pub run_verdict : Machine → Telling → Result Job End → Verdict
run_verdict m telling (Err end) = refused end
run_verdict m telling (Ok job) = judged_by m.rules m.told telling job.input (order_by m.rules job)
