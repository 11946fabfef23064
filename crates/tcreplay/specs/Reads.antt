-- What reading the inputs makes of the ends, and what it gives: that is what the definitions say of what the inputs gave,
-- or a call of an end failed, or memory ran out.
use Rattle.std.specs.Prelude.{◌≡◌, ℕ, ◌+◌, ◌<◌, ◌≤◌, ◌⊎◌, Bool, true, false, List, [], length, All, Option, Some, None, Result, Ok, Err, IsOk, IsErr, IsSome, IfSome, MatchResult, Vec}
use Rattle.std.specs.Global.{Global}
use Rattle.std.specs.Option.{option_map_or}
use Rattle.std.specs.FinMap.{get}
use Rattle.tc_units.specs.declared.spans.ClassRow.{ClassRow}
use Rattle.tc_model.specs.Input.{Asked, Input}
use Rattle.tc_model.specs.Run.{start}
use Rattle.tc_model.specs.Chains.{IsPolite}
use Rattle.tc_ports.specs.Faults.{one_more, Rose}
use Rattle.tc_ports.specs.Told.{LostAtMost}
use Rattle.tc_ports.specs.declared.shelf.LoadFault.{LoadFault}
use Rattle.tc_ports.specs.declared.shelf.LoadFault.TheVariants as load
use Rattle.tc_ports.specs.Shelves.{Files}
use Rattle.tc_ports.specs.Ends.{Reading, Shelving}
use Rattle.trace_reader.specs.declared.trace.Trace.{Trace}
use Rattle.alloc_rules.specs.Inputs.{not_taken}
use Rattle.tc_machine.specs.Inputs.{IsRead, asked_of, input_of}
use Rattle.tcreplay.specs.declared.outcome.End.{End}
use Rattle.tcreplay.specs.declared.outcome.End.TheVariants.{Done, BadTrace, ReadFault, WriteFault, Memory, TooLong, Full, BadOrder, FileFault, AuditNo}
use Rattle.tcreplay.specs.declared.input.Job.{Job}
use Rattle.tcreplay.specs.Machines.{Machine, machine_of}
use Rattle.tcreplay.specs.Tasks.{Front, Replay, Schedule, ByThreads, file_of}
use Rattle.tcreplay.specs.Verdict.{Given, trace_limit, rows_in, asked_in, picks_in, job_of, and_then}
use Rattle.tcreplay.specs.Verdict as verdict

-- the bytes of a file that a shelf tells; where it tells none, there is some file
abbrev pub IsFile : Option Files → List ℕ → Option (List ℕ) → Type 0
IsFile None name file = IsSome file
IsFile (Some all) name file = file ≡ get all name

-- the end that a fault of a load is
abbrev pub load_end : ℕ → LoadFault → End
load_end limit load.Failed = FileFault
load_end limit load.Missing = FileFault
load_end limit load.TooLong = TooLong limit
load_end limit load.Memory = Memory

-- A step with this verdict, with the count of faults of its end before and after: it went as the verdict says, or memory
-- ran out, or its end failed.
abbrev pub IsStep : {A B : Type 0} → (B → A) → Result A End → End → ℕ → ℕ → Result B End → Type 0
IsStep seen verdict fault old new (Ok gave) = (verdict ≡ Ok (seen gave)) × (new ≡ old)
IsStep seen verdict fault old new (Err end) = ((verdict ≡ Err end) × (new ≡ old)) ⊎ (((end ≡ Memory) × (new ≡ old)) ⊎ ((end ≡ fault) × Rose old new))

-- a step that needs no end: it went as the verdict says, or memory ran out
abbrev pub IsPure : {A B : Type 0} → (B → A) → Result A End → Result B End → Type 0
IsPure seen verdict (Ok gave) = verdict ≡ Ok (seen gave)
IsPure seen verdict (Err end) = (verdict ≡ Err end) ⊎ (end ≡ Memory)

-- by one load, a file gave what this verdict on it says
pub record IsLoad {A B : Type 0} (seen : B → A) (verdict : Option (List ℕ) → Result A End) (name : List ℕ) (before after : Shelving) (result : Result B End) : Type 0 where
  pub file : Option (List ℕ)
  pub told : IsFile before.files name file
  pub step : IsStep seen (verdict file) FileFault before.faults after.faults result
  pub files : after.files ≡ before.files
  pub once : after.loads ≡ one_more before.loads

-- the picks that an order file gave, where one is named; else there are none, and no file is touched
abbrev pub ArePicks : Option (List ℕ) → ℕ → Shelving → Shelving → Result (Vec ℕ Global) End → Type 0
ArePicks None threads before after result = (after ≡ before) × MatchResult result (λ v. v.items ≡ []) (λ _. ⊥)
ArePicks (Some name) threads before after result = IsLoad (λ (v : Vec ℕ Global). v.items) (picks_in threads) name before after result

-- the end that a step came to, where it is the last one
abbrev pub end_of : {A : Type 0} → Result A End → End
end_of (Ok gave) = Done
end_of (Err end) = end

-- a count of faults is what it was, unless the end is this fault: then it rose
abbrev pub IsCounted : End → End → ℕ → ℕ → Type 0
IsCounted fault end old new = (new ≡ old) ⊎ ((end ≡ fault) × Rose old new)

-- how many bytes of the trace are gone at most at an end: those of the limit, and one more where that shows that there are
-- too many
abbrev pub most_gone : End → ℕ
most_gone (TooLong limit) = trace_limit + 1
most_gone end = trace_limit

-- whether an end comes behind all that is read: behind a run, or behind the judgement of a journal
abbrev pub is_behind_run : End → Bool
is_behind_run Done = true
is_behind_run WriteFault = true
is_behind_run (Full ticket) = true
is_behind_run (AuditNo line why) = true
is_behind_run end = false

-- whether an end comes behind the last byte of the trace
abbrev pub is_behind_trace : End → Bool
is_behind_trace (BadTrace line why) = true
is_behind_trace (BadOrder line why) = true
is_behind_trace end = is_behind_run end

-- the trace that was left gave what it asks for under these rows, of the machine that is to run it, where one is
pub record IsTraceRead (runner : Option Front) (rows : List ClassRow) (before after : Reading) (result : Result Trace End) : Type 0 where
  pub text : List ℕ
  pub told : IfSome before.left (λ bytes. text ≡ bytes)
  pub step : IsStep asked_of (asked_in runner rows text) ReadFault before.faults after.faults result
  pub lost : LostAtMost before.left after.left (most_gone (end_of result))
  pub reads : after.reads ≤ before.reads + trace_limit + 1
  pub drained : is_behind_trace (end_of result) ≡ true → IfSome after.left (λ rest. rest ≡ [])

-- Picks that a machine's threads made under locks: each of them moved and was polite, they are no more than may move, and
-- what holds besides of such picks holds of them.
pub record IsMadeOf (m : Machine) (input : Input) (picks : List ℕ) : Type 0 where
  pub polite : IsPolite (m.rules input) (start (m.rules input)) picks
  pub few : length picks ≤ input.asked.config.events
  pub made : m.made input picks

-- the picks that came from worker threads; where none are asked for, there are none
abbrev pub HaveCome : Machine → Schedule → Result verdict.Job End → List ℕ → Type 0
HaveCome m (ByThreads locks) (Ok job) picks = IsMadeOf m job.input picks
HaveCome m schedule job picks = picks ≡ []

-- what the inputs gave is what they tell, where they tell it: the class table, the trace, and the file that is loaded
-- behind it, where one is named
pub record AreTold (classes : List ℕ) (named : Option (List ℕ)) (files : Option Files) (left : Option (List ℕ)) (given : Given) : Type 0 where
  pub table : IsFile files classes given.table
  pub trace : IfSome left (λ bytes. given.trace ≡ bytes)
  pub file : IfSome named (λ name. IsFile files name given.file)

-- and what came is what worker threads made
pub record AreGiven (replay : Replay) (files : Option Files) (left : Option (List ℕ)) (given : Given) : Type 0 where
  pub told : AreTold replay.classes (file_of replay.schedule) files left given
  pub came : HaveCome (machine_of replay.front) replay.schedule (job_of replay given) given.came

-- what the trace asks for, where the class table and the trace give it
abbrev pub asked_by : Option Front → Given → Result Asked End
asked_by runner given = and_then (λ rows. asked_in runner rows given.trace) (rows_in given.table)

-- What may come in place of the definitions' end: memory ran out, or a call of an end failed, so that its count of
-- faults rose, behind steps that gave what it needs. The first load is that of the class table; a further file is loaded
-- behind a good table and a good trace.
abbrev pub CutOff : Option Front → Given → Reading → Reading → Shelving → Shelving → End → Type 0
CutOff runner given t u f g Memory = Unit {0}
CutOff runner given t u f g ReadFault = Rose t.faults u.faults × IsOk (rows_in given.table)
CutOff runner given t u f g FileFault = Rose f.faults g.faults × (((g.loads ≡ one_more f.loads) × (u ≡ t)) ⊎ IsOk (asked_by runner given))
CutOff runner given t u f g end = ⊥

-- the ends of a further file, where class table and trace are good: it isn't there, or it is too long
abbrev pub is_of_file : End → Bool
is_of_file FileFault = true
is_of_file (TooLong limit) = true
is_of_file end = false

-- all was read: the trace to its end, the class table, and a further file where one is named
pub record IsAllRead (file : Option (List ℕ)) (u : Reading) (f g : Shelving) : Type 0 where
  pub drained : IfSome u.left (λ rest. rest ≡ [])
  pub loads : g.loads ≡ option_map_or (λ name. one_more (one_more f.loads)) file (one_more f.loads)

-- What was read at an end, where a further file is named or none: each input once at most, up to its limit, and not before
-- its step: a second load is that of a named file, behind a good trace that was read to its end. Behind a run or an audit,
-- and where the further file ends the work, all was read. A count of faults rose only where that is the end.
pub record HasRead (runner : Option Front) (file : Option (List ℕ)) (given : Given) (t u : Reading) (f g : Shelving) (end : End) : Type 0 where
  pub files : g.files ≡ f.files
  pub loads : (g.loads ≡ one_more f.loads)
      ⊎ ((g.loads ≡ one_more (one_more f.loads)) × IsSome file × IsOk (asked_by runner given) × IfSome u.left (λ rest. rest ≡ []))
  pub behind_run : is_behind_run end ≡ true → IsAllRead file u f g
  pub behind_file : is_of_file end ≡ true → IsOk (asked_by runner given) → (Rose f.faults g.faults → ⊥) → IsAllRead file u f g
  pub file_count : IsCounted FileFault end f.faults g.faults
  pub untouched : IsErr (rows_in given.table) → u ≡ t
  pub lost : LostAtMost t.left u.left (most_gone end)
  pub reads : u.reads ≤ t.reads + trace_limit + 1
  pub drained : is_behind_trace end ≡ true → IfSome u.left (λ rest. rest ≡ [])
  pub trace_count : IsCounted ReadFault end t.faults u.faults

-- a job, as the definitions have it
abbrev pub seen_job : Job → verdict.Job
seen_job job = record { input = input_of job.table job.trace; picks = job.picks.items }

-- the machine that is to run a trace, where one is, takes each of its calls
abbrev pub IsTakenBy : Option Front → Trace → Type 0
IsTakenBy None trace = Unit {0}
IsTakenBy (Some front) trace = not_taken (machine_of front).takes (asked_of trace).calls ≡ 0

-- what the machine asks of a job: its trace was read, and the picks are of threads that there are
pub record IsRunnable (job : Job) : Type 0 where
  pub read : IsRead (length job.table) job.trace (asked_of job.trace)
  pub picks : All (λ thread. thread < job.trace.config.threads) job.picks.items

-- what the inputs give together, or why they don't
abbrev pub IsReadAs : {J K : Type 0} → Option Front → (K → J) → Result J End → Given → Reading → Reading → Shelving → Shelving → Result K End → Type 0
IsReadAs runner seen verdict given t u f g (Ok gave) = verdict ≡ Ok (seen gave)
IsReadAs runner seen verdict given t u f g (Err end) = (verdict ≡ Err end) ⊎ CutOff runner given t u f g end

-- The inputs were read, the class table of this file, the trace, and a further file where one is named, and gave what comes
-- of them together. No thread has run.
pub record AreRead {J K : Type 0} (runner : Option Front) (seen : K → J) (verdict : Given → Result J End) (classes : List ℕ) (file : Option (List ℕ)) (t u : Reading) (f g : Shelving) (result : Result K End) : Type 0 where
  pub given : Given
  pub told : AreTold classes file f.files t.left given
  pub none_came : given.came ≡ []
  pub answer : IsReadAs runner seen (verdict given) given t u f g result
  pub read : HasRead runner file given t u f g (end_of result)

-- of a replay
abbrev pub IsJobRead : Replay → Reading → Reading → Shelving → Shelving → Result Job End → Type 0
IsJobRead replay t u f g result = AreRead (Some replay.front) seen_job (job_of replay) replay.classes (file_of replay.schedule) t u f g result
