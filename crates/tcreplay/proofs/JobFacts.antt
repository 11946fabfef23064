-- What the steps of reading come to together: the class table, the trace, and what is behind them.
use Rattle.std.proofs.Common.{◌≡◌, ℕ, ◌≤◌, inl, true, false, List, [], Option, Some, None, Result, Ok, Err, refl, sym, ap, subst, ◌∙◌, arith}
use Rattle.std.specs.Prelude.{IfSome, IsOk, IsErr, IsErrAnd, is_err, Vec}
use Rattle.std.specs.Option.{option_map_or}
use Rattle.std.specs.Global.{Global}
use Rattle.tc_units.specs.declared.spans.ClassRow.{ClassRow}
use Rattle.tc_model.specs.Input.{Asked}
use Rattle.tc_ports.specs.Faults.{one_more, Rose}
use Rattle.tc_ports.specs.Shelves.{Files}
use Rattle.tc_ports.specs.Told.{LostAtMost}
use Rattle.tc_ports.specs.Ends.{Reading, Shelving}
use Rattle.trace_reader.specs.declared.trace.Trace.{Trace}
use Rattle.tc_machine.specs.Inputs.{asked_of}
use Rattle.tcreplay.specs.declared.outcome.End.{End}
use Rattle.tcreplay.specs.declared.outcome.End.TheVariants.{Done, TooLong, ReadFault, FileFault}
use Rattle.tcreplay.specs.declared.input.Job.{Job}
use Rattle.tcreplay.specs.Tasks.{Front, Replay, file_of}
use Rattle.tcreplay.specs.Verdict as verdict
use Rattle.tcreplay.specs.Verdict.{Given, and_then, trace_limit, rows_in, asked_in, picks_in, job_with, read_of}
use Rattle.tcreplay.specs.Reads.{IsFile, IsStep, IsLoad, ArePicks, IsTraceRead, CutOff, HasRead, IsReadAs, AreRead, IsJobRead, IsCounted, seen_job, most_gone, is_of_file, is_behind_trace, is_behind_run}
use Rattle.tcreplay.proofs.EndFacts.{FailsTable, FailsJob, table_fails, job_fails}
use Rattle.tcreplay.proofs.LoadFacts.{some_file, some_file_is}
use Rattle.tcreplay.proofs.TraceFacts.{some_text, some_text_is, lost_none, lost_more}

-- no end of a class table comes behind the trace
not_behind : FailsTable is_behind_trace
not_behind = record { all = record { missing = refl; memory = refl; long = λ _. refl }; bad = λ _ _. refl }

-- an end that comes behind the trace is another than one that doesn't
behind_not : (end : End) → is_behind_trace end ≡ false → is_behind_trace end ≡ true → ⊥
behind_not end is later = let e : false ≡ true = sym is ∙ later in cc

-- the reading has no end behind a run
pub not_run : FailsJob is_behind_run
not_run = grind (arith)

pub cut_early : (runner : Option Front) (given : Given) (t u : Reading) (f g : Shelving) (end : End) → CutOff runner given t u f g end → is_behind_run end ≡ false
cut_early runner given t u f g end cut = grind (arith)

-- a step that ended left the count of faults, or it failed
step_count : {A B : Type 0} (seen : B → A) (verdict : Result A End) (fault end : End) (old new : ℕ) → IsStep seen verdict fault old new (Err end) → IsCounted fault end old new
step_count seen verdict fault end old new x6 = grind (arith)

-- where nothing of the trace is gone that the limit doesn't allow, no more is gone than at any end
gone_least : (end : End) → trace_limit ≤ most_gone end
gone_least (TooLong limit) = omega arith
gone_least end = omega arith

pub gone_for : (left rest : Option (List ℕ)) (end : End) → LostAtMost left rest trace_limit → LostAtMost left rest (most_gone end)
gone_for left rest end lost = lost_more left rest trace_limit (most_gone end) (gone_least end) lost

not_err : {A : Type 0} (r : Result A End) (a : A) → r ≡ Ok a → IsErr r → ⊥
not_err r a is err = let e : true ≡ false = sym err ∙ ap is_err is in cc

-- a further file, where one is named
abbrev further : Option Files → Option (List ℕ) → Option (List ℕ)
further files None = None
further files (Some name) = some_file files name

further_is : (files : Option Files) (file : Option (List ℕ)) → IfSome file (λ name. IsFile files name (further files file))
further_is files None = tt
further_is files (Some name) = some_file_is files name

-- a class table that is good, in a load that didn't fail, ends nothing but for want of memory
then_ok : {A B : Type 0} (first : Option (List ℕ) → Result A End) (next : A → Result B End) (file : Option (List ℕ)) → IsOk (and_then next (first file)) → IsOk (first file)
then_ok {A} {B} first next file good = grind (arith)

table_only : (file : Option (List ℕ)) (end : End) (f g : Shelving) → is_of_file end ≡ true → IsOk (rows_in file) → (Rose f.faults g.faults → ⊥)
    → IsStep (λ (rows : List ClassRow). rows) (rows_in file) FileFault f.faults g.faults (Err end) → ⊥
table_only file end f g is good whole x7 = grind (arith)

-- and so does a trace that is good
trace_only : (runner : Option Front) (rows : List ClassRow) (file : Option (List ℕ)) (text : List ℕ) (end : End) (t u : Reading) → rows_in file ≡ Ok rows
    → is_of_file end ≡ true → IsOk (and_then (λ rows. asked_in runner rows text) (rows_in file))
    → IsStep asked_of (asked_in runner rows text) ReadFault t.faults u.faults (Err end) → ⊥
trace_only runner rows file text end t u table is good x10 = grind (arith)

-- what the class table and the trace gave together
asked_is : (runner : Option Front) (file : Option (List ℕ)) (text : List ℕ) (rows : List ClassRow) (trace : Trace) → rows_in file ≡ Ok rows
    → asked_in runner rows text ≡ Ok (asked_of trace) → and_then (λ rows. asked_in runner rows text) (rows_in file) ≡ Ok (asked_of trace)
asked_is runner file text rows trace good asked = ap (and_then (λ rows. asked_in runner rows text)) good ∙ asked

-- the further file, as the shelf told it at the start
file_told : (file : Option (List ℕ)) (name : List ℕ) (first second : Option Files) (bytes : Option (List ℕ)) → file ≡ Some name → second ≡ first
    → IsFile second name bytes → IfSome file (λ name. IsFile first name bytes)
file_told file name first second bytes named same told =
    subst (λ (o : Option (List ℕ)). IfSome o (λ name. IsFile first name bytes)) (sym named) (subst (λ (files : Option Files). IsFile files name bytes) same told)

-- what a step that ended the work hands on
pub handed_on : {A : Type 0} (result : Result A End) (end : End) → IsErrAnd result (λ e. e ≡ end) → result ≡ Err end
handed_on (Ok given) end is = absurd is
handed_on (Err e) end is = ap Err is

-- What is behind the class table and the trace has no end that comes behind all that is read.
abbrev pub IsEarly : {J : Type 0} → Option Front → (Given → List ClassRow → Asked → Result J End) → Type 0
IsEarly runner behind = (given : Given) (end : End) → read_of runner behind given ≡ Err end → is_behind_run end ≡ false

module _ {J K : Type 0} (runner : Option Front) (behind : Given → List ClassRow → Asked → Result J End) (early : IsEarly runner behind) (seen : K → J) (classes : List ℕ) (named : Option (List ℕ)) where
  abbrev WereRead : Reading → Reading → Shelving → Shelving → Result K End → Type 0
  WereRead t u f g result = AreRead runner seen (read_of runner behind) classes named t u f g result

  -- a reading that stopped came to no end behind a run
  stops_early : (given : Given) (t u : Reading) (f g : Shelving) (end : End) → IsReadAs runner seen (read_of runner behind given) given t u f g (Err end) → is_behind_run end ≡ true → ⊥
  stops_early given t u f g end answer later = grind (arith)

  -- the class table ends the work
  table_stops : (t : Reading) (f g : Shelving) (end : End) → IsLoad (λ (rows : List ClassRow). rows) rows_in classes f g (Err end) → WereRead t t f g (Err end)
  table_stops t f g end load =
      let given : Given = record { table = load.file; trace = some_text t.left; file = further f.files named; came = [] } in
      grind (
        arith,
        table_fails is_behind_trace load.file end not_behind,
        not_behind,
        some_text_is t.left,
        further_is f.files named,
        stops_early given t t f g end,
        table_only load.file end f g,
        then_ok rows_in (λ rows. asked_in runner rows given.trace) load.file,
        step_count (λ (rows : List ClassRow). rows) (rows_in load.file) FileFault end f.faults g.faults load.step,
        lost_none t.left (most_gone end),
        behind_not end,
      )

  -- the trace ends the work
  trace_stops : (t u : Reading) (f g : Shelving) (rows : List ClassRow) (end : End) → IsLoad (λ (rows : List ClassRow). rows) rows_in classes f g (Ok rows)
      → IsTraceRead runner rows t u (Err end) → WereRead t u f g (Err end)
  trace_stops t u f g rows end load trace =
      let given : Given = record { table = load.file; trace = trace.text; file = further f.files named; came = [] } in
      grind (arith, further_is f.files named, stops_early given t u f g end, trace_only runner, not_err (rows_in load.file), step_count asked_of)

  -- what a good class table and a good trace come to
  good_is : (given : Given) (rows : List ClassRow) (trace : Trace) → rows_in given.table ≡ Ok rows → asked_in runner rows given.trace ≡ Ok (asked_of trace)
      → read_of runner behind given ≡ behind given rows (asked_of trace)
  good_is given rows trace good asked = ap (λ r. and_then (λ rows. and_then (behind given rows) (asked_in runner rows given.trace)) r) good ∙ ap (and_then (behind given rows)) asked

  -- all is there, and no further file is named
  pub read_without : (t u : Reading) (f g : Shelving) (rows : List ClassRow) (trace : Trace) (gave : K) → named ≡ None
      → IsLoad (λ (rows : List ClassRow). rows) rows_in classes f g (Ok rows) → IsTraceRead runner rows t u (Ok trace)
      → ((given : Given) → given.came ≡ [] → behind given rows (asked_of trace) ≡ Ok (seen gave)) → WereRead t u f g (Ok gave)
  read_without t u f g rows trace gave none load read gives =
      let given : Given = record { table = load.file; trace = read.text; file = None; came = [] } in
      grind (arith, good_is given rows trace load.step.0 read.step.0, gives given refl, read.drained refl, not_err (rows_in load.file) rows load.step.0)

  pub table_err : (t : Reading) (f g : Shelving) (end : End) (result : Result K End) → IsErrAnd result (λ e. e ≡ end)
      → IsLoad (λ (rows : List ClassRow). rows) rows_in classes f g (Err end) → WereRead t t f g result
  table_err t f g end result is load = subst (WereRead t t f g) (sym (handed_on result end is)) (table_stops t f g end load)

  pub trace_err : (t u : Reading) (f g : Shelving) (rows : List ClassRow) (end : End) (result : Result K End) → IsErrAnd result (λ e. e ≡ end)
      → IsLoad (λ (rows : List ClassRow). rows) rows_in classes f g (Ok rows) → IsTraceRead runner rows t u (Err end) → WereRead t u f g result
  trace_err t u f g rows end result is load read = subst (WereRead t u f g) (sym (handed_on result end is)) (trace_stops t u f g rows end load read)

  -- A further file is named, of whose bytes a step makes what is needed.
  module _ {P V : Type 0} (value : V → P) (step : ℕ → Option (List ℕ) → Result P End) (made : List ClassRow → Asked → P → J)
      (name : List ℕ) (is_named : named ≡ Some name) (behind_is : (given : Given) (rows : List ClassRow) (asked : Asked) → behind given rows asked ≡ and_then (λ p. Ok (made rows asked p)) (step asked.config.threads given.file)) where
    -- what was read behind a good trace
    behind_file : (t u : Reading) (f g h : Shelving) (rows : List ClassRow) (trace : Trace) (given : Given) (end : End) → rows_in given.table ≡ Ok rows
        → asked_in runner rows given.trace ≡ Ok (asked_of trace) → g.files ≡ f.files → h.files ≡ g.files → g.loads ≡ one_more f.loads
        → h.loads ≡ one_more g.loads → IsCounted FileFault end f.faults h.faults → IsTraceRead runner rows t u (Ok trace)
        → HasRead runner named given t u f h end
    behind_file t u f g h rows trace given end good asked first second one two count read = grind (arith)

    -- the further file ends the work
    file_stops : (t u : Reading) (f g h : Shelving) (rows : List ClassRow) (trace : Trace) (end : End)
        → IsLoad (λ (rows : List ClassRow). rows) rows_in classes f g (Ok rows) → IsTraceRead runner rows t u (Ok trace)
        → IsLoad value (step trace.config.threads) name g h (Err end) → WereRead t u f h (Err end)
    file_stops t u f g h rows trace end load read file =
        let given : Given = record { table = load.file; trace = read.text; file = file.file; came = [] } in
        let answer : IsReadAs runner seen (read_of runner behind given) given t u f h (Err end) =
        grind (arith, good_is given rows trace load.step.0 read.step.0, asked_is runner load.file read.text rows trace load.step.0 read.step.0) in
        record {
          given = given;
          told = record { table = load.told; trace = read.told; file = file_told named name f.files g.files file.file is_named load.files file.told };
          none_came = refl;
          answer = answer;
          read = behind_file t u f g h rows trace given end load.step.0 read.step.0 load.files file.files load.once file.once (subst (λ n. IsCounted FileFault end n h.faults) load.step.1 (step_count value (step trace.config.threads file.file) FileFault end g.faults h.faults file.step)) read;
        }

    -- all is there, with the further file
    pub read_with : (t u : Reading) (f g h : Shelving) (rows : List ClassRow) (trace : Trace) (v : V) (gave : K)
        → made rows (asked_of trace) (value v) ≡ seen gave → IsLoad (λ (rows : List ClassRow). rows) rows_in classes f g (Ok rows)
        → IsTraceRead runner rows t u (Ok trace) → IsLoad value (step trace.config.threads) name g h (Ok v) → WereRead t u f h (Ok gave)
    read_with t u f g h rows trace v gave same load read file =
        let given : Given = record { table = load.file; trace = read.text; file = file.file; came = [] } in
        record {
          given = given;
          told = record { table = load.told; trace = read.told; file = file_told named name f.files g.files file.file is_named load.files file.told };
          none_came = refl;
          answer = good_is given rows trace load.step.0 read.step.0 ∙ (behind_is given rows (asked_of trace) ∙ (ap (and_then (λ p. Ok (made rows (asked_of trace) p))) file.step.0 ∙ ap Ok same));
          read = behind_file t u f g h rows trace given Done load.step.0 read.step.0 load.files file.files load.once file.once (inl (file.step.1 ∙ load.step.1)) read;
        }

    pub file_err : (t u : Reading) (f g h : Shelving) (rows : List ClassRow) (trace : Trace) (end : End) (result : Result K End)
        → IsErrAnd result (λ e. e ≡ end) → IsLoad (λ (rows : List ClassRow). rows) rows_in classes f g (Ok rows) → IsTraceRead runner rows t u (Ok trace)
        → IsLoad value (step trace.config.threads) name g h (Err end) → WereRead t u f h result
    file_err t u f g h rows trace end result is load read file = subst (WereRead t u f h) (sym (handed_on result end is)) (file_stops t u f g h rows trace end load read file)

-- Of a replay: its picks are those of an order file, or there are none.
job_early : (replay : Replay) → IsEarly (Some replay.front) (job_with replay)
job_early replay given end is = job_fails is_behind_run replay given end not_run is

abbrev job_made : List ClassRow → Asked → List ℕ → verdict.Job
job_made rows asked picks = record { input = record { rows = rows; asked = asked }; picks = picks }

abbrev items_of : Vec ℕ Global → List ℕ
items_of v = v.items

named_picks : (replay : Replay) (name : List ℕ) → file_of replay.schedule ≡ Some name → (given : Given) (rows : List ClassRow) (asked : Asked)
    → job_with replay given rows asked ≡ and_then (λ p. Ok (job_made rows asked p)) (picks_in asked.config.threads given.file)
named_picks replay name named given rows asked = ap (λ o. and_then (λ p. Ok (job_made rows asked p)) (option_map_or (λ (name : List ℕ). picks_in asked.config.threads given.file) o (Ok given.came))) named

no_picks : (replay : Replay) (rows : List ClassRow) (asked : Asked) → file_of replay.schedule ≡ None → (given : Given) → given.came ≡ []
    → job_with replay given rows asked ≡ Ok (job_made rows asked [])
no_picks replay rows asked none given came = ap (λ o. and_then (λ p. Ok (job_made rows asked p)) (option_map_or (λ (name : List ℕ). picks_in asked.config.threads given.file) o (Ok given.came))) none ∙ ap (λ p. Ok (job_made rows asked p)) came

module _ (replay : Replay) where
  pub job_table : (t : Reading) (f g : Shelving) (end : End) (result : Result Job End) → IsErrAnd result (λ e. e ≡ end)
      → IsLoad (λ (rows : List ClassRow). rows) rows_in replay.classes f g (Err end) → IsJobRead replay t t f g result
  job_table = table_err (Some replay.front) (job_with replay) (job_early replay) seen_job replay.classes (file_of replay.schedule)

  pub job_trace : (t u : Reading) (f g : Shelving) (rows : List ClassRow) (end : End) (result : Result Job End) → IsErrAnd result (λ e. e ≡ end)
      → IsLoad (λ (rows : List ClassRow). rows) rows_in replay.classes f g (Ok rows) → IsTraceRead (Some replay.front) rows t u (Err end)
      → IsJobRead replay t u f g result
  job_trace = trace_err (Some replay.front) (job_with replay) (job_early replay) seen_job replay.classes (file_of replay.schedule)

  without_file : (t u : Reading) (f g h : Shelving) (rows : List ClassRow) (trace : Trace) (picks room : Vec ℕ Global) → file_of replay.schedule ≡ None
      → IsLoad (λ (rows : List ClassRow). rows) rows_in replay.classes f g (Ok rows) → IsTraceRead (Some replay.front) rows t u (Ok trace) → h ≡ g
      → picks.items ≡ [] → IsJobRead replay t u f h (Ok (record { table = rows; trace = trace; picks = picks; room = room }))
  without_file t u f g h rows trace picks room none load read same empty =
      let job : Job = record { table = rows; trace = trace; picks = picks; room = room } in
      let gives : (given : Given) → given.came ≡ [] → job_with replay given rows (asked_of trace) ≡ Ok (seen_job job) = λ given came. no_picks replay rows (asked_of trace) none given came ∙ ap (λ p. Ok (job_made rows (asked_of trace) p)) (sym empty) in
      subst (λ (s : Shelving). IsJobRead replay t u f s (Ok job)) (sym same) (read_without (Some replay.front) (job_with replay) (job_early replay) seen_job replay.classes (file_of replay.schedule) t u f g rows trace job none load read gives)

  pub job_ok : (order : Option (List ℕ)) (t u : Reading) (f g h : Shelving) (rows : List ClassRow) (trace : Trace) (picks room : Vec ℕ Global)
      → file_of replay.schedule ≡ order → IsLoad (λ (rows : List ClassRow). rows) rows_in replay.classes f g (Ok rows)
      → IsTraceRead (Some replay.front) rows t u (Ok trace) → ArePicks order trace.config.threads g h (Ok picks)
      → IsJobRead replay t u f h (Ok (record { table = rows; trace = trace; picks = picks; room = room }))
  job_ok None t u f g h rows trace picks room named load read are = without_file t u f g h rows trace picks room named load read are.0 are.1
  job_ok (Some name) t u f g h rows trace picks room named load read are =
      let job : Job = record { table = rows; trace = trace; picks = picks; room = room } in
      read_with (Some replay.front) (job_with replay) (job_early replay) seen_job replay.classes (file_of replay.schedule) items_of picks_in job_made name named (named_picks replay name named) t u f g h rows trace picks job refl load read are

  pub job_picks : (order : Option (List ℕ)) (t u : Reading) (f g h : Shelving) (rows : List ClassRow) (trace : Trace) (end : End) (result : Result Job End)
      → file_of replay.schedule ≡ order → IsErrAnd result (λ e. e ≡ end) → IsLoad (λ (rows : List ClassRow). rows) rows_in replay.classes f g (Ok rows)
      → IsTraceRead (Some replay.front) rows t u (Ok trace) → ArePicks order trace.config.threads g h (Err end) → IsJobRead replay t u f h result
  job_picks None t u f g h rows trace end result named is load read are = absurd are.1
  job_picks (Some name) t u f g h rows trace end result named is load read are =
      file_err (Some replay.front) (job_with replay) (job_early replay) seen_job replay.classes (file_of replay.schedule) items_of picks_in job_made name named (named_picks replay name named) t u f g h rows trace end result is load read are
