-- What the generation of a trace comes to: the trace is replayed in serial, and only then it is written, and the summary of
-- that replay behind it.
use Rattle.std.specs.Prelude.{◌≡◌, ℕ, ◌⊎◌, true, List, [], Option, Result, Ok, IsOk, IfOk}
use Rattle.tc_units.specs.declared.spans.ClassRow.{ClassRow}
use Rattle.tc_model.specs.Run.{run}
use Rattle.tc_model.specs.Replays.{HaveEnded}
use Rattle.tc_ports.specs.Faults.{one_more, Rose}
use Rattle.tc_ports.specs.Told.{Took}
use Rattle.trace_gen.specs.TraceText.{trace_text}
use Rattle.tc_ports.specs.Ends.{Shelving, Writing}
use Rattle.tcreplay.specs.Machines.{per_cpu}
use Rattle.tcreplay.specs.declared.run.Telling.TheVariants.{Summary}
use Rattle.tcreplay.specs.declared.generate.Made.{Made}
use Rattle.tcreplay.specs.declared.outcome.End.{End}
use Rattle.tcreplay.specs.declared.outcome.End.TheVariants.{Done, BadTable, WriteFault, Memory, TooLong, Full, FileFault}
use Rattle.tcreplay.specs.Tasks.{Workload, InTurn}
use Rattle.tcreplay.specs.Verdict.{Job, Verdict, and_then, rows_in, asked_of_text, order_by, run_verdict, summary_in}
use Rattle.tcreplay.specs.Reads.{IsFile, IsLoad, IsCounted, is_behind_run, seen_job}
use Rattle.tcreplay.specs.Writes.{Ends, TookText, TookPartOf, IsAnswer}
use Rattle.tcreplay.specs.Order.{IsOrderOf}

-- the trace of a workload
abbrev pub trace_of : Workload → List ℕ
trace_of workload = trace_text workload.seed workload.calls workload.threads

-- its serial replay under a class table
abbrev pub generation_job : Workload → Option (List ℕ) → Result Job End
generation_job workload table =
    and_then (λ rows. and_then (λ asked. Ok (record { input = record { rows = rows; asked = asked }; picks = [] })) (asked_of_text rows (trace_of workload)))
    (rows_in table)

-- the end and the order of that replay, and its summary
abbrev pub generation_verdict : Workload → Option (List ℕ) → Verdict
generation_verdict workload table = run_verdict per_cpu Summary (generation_job workload table)

-- what a trace was made of: by one load, the class table gave what its replay needs, or why there is none
pub record IsMade (workload : Workload) (f g : Shelving) (result : Result Made End) : Type 0 where
  pub valid : (rows : List ClassRow) → IsOk (asked_of_text rows (trace_of workload))
  pub made : IsLoad (λ (made : Made). seen_job made.job) (generation_job workload) workload.classes f g result
  pub text : IfOk result (λ made. made.text.items ≡ trace_of workload)

-- The trace goes to `out` by one put, and then the summary to `notes` by one put. At a write fault `out` took a part of the
-- trace, and `notes` nothing; or `notes` took a part of the summary. Else both are untouched.
abbrev pub AreWritten : End → List ℕ → List ℕ → Writing → Writing → Writing → Writing → Type 0
AreWritten Done trace summary out out_after notes notes_after = TookText trace out out_after × TookText summary notes notes_after
AreWritten WriteFault trace summary out out_after notes notes_after =
    (TookPartOf trace out out_after × (notes_after ≡ notes)) ⊎ (TookText trace out out_after × TookPartOf summary notes notes_after)
AreWritten end trace summary out out_after notes notes_after = (out_after ≡ out) × (notes_after ≡ notes)

-- the ends of a generation: no trace, no source and no order file is ever at fault
abbrev pub IsGenerationEnd : End → Type 0
IsGenerationEnd Done = Unit {0}
IsGenerationEnd (BadTable row why) = Unit {0}
IsGenerationEnd WriteFault = Unit {0}
IsGenerationEnd Memory = Unit {0}
IsGenerationEnd (TooLong limit) = Unit {0}
IsGenerationEnd (Full ticket) = Unit {0}
IsGenerationEnd FileFault = Unit {0}
IsGenerationEnd end = ⊥

-- What is printed is the workload's trace, and what is noted is the summary of the serial replay of it, in which every call
-- has returned, and for which the machine's law holds.
pub record IsGenerationHeadline (workload : Workload) (table : Option (List ℕ)) (before after : Ends) (order : List ℕ) : Type 0 where
  pub job : Job
  pub asked : generation_job workload table ≡ Ok job
  pub order_is : order ≡ order_by per_cpu.rules job
  pub ended : HaveEnded (per_cpu.rules job.input) (run (per_cpu.rules job.input) order)
  pub trace : Took before.out.taken after.out.taken (trace_of workload)
  pub summary : Took before.notes.taken after.notes.taken (summary_in (per_cpu.told job.input order))
  pub law : per_cpu.lawful job.input order

-- A generation was tried: the source is untouched, and one file is loaded, the class table. Memory may run out, or that load
-- fail.
pub record HasGenerated (workload : Workload) (before after : Ends) (end : End) (order : List ℕ) : Type 0 where
  pub table : Option (List ℕ)
  pub told : IsFile before.files.files workload.classes table
  pub valid : (rows : List ClassRow) → IsOk (asked_of_text rows (trace_of workload))
  pub answer : IsAnswer (generation_verdict workload table) ((end ≡ Memory) ⊎ ((end ≡ FileFault) × Rose before.files.faults after.files.faults)) end order
  pub ends : IsGenerationEnd end
  pub trace : after.trace ≡ before.trace
  pub files : after.files.files ≡ before.files.files
  pub once : after.files.loads ≡ one_more before.files.loads
  pub file_count : IsCounted FileFault end before.files.faults after.files.faults
  pub written : AreWritten end (trace_of workload) (generation_verdict workload table).text before.out after.out before.notes after.notes
  pub law : is_behind_run end ≡ true → (job : Job) → generation_job workload table ≡ Ok job → per_cpu.lawful job.input order
  pub run : is_behind_run end ≡ true → (job : Job) → generation_job workload table ≡ Ok job → IsOrderOf per_cpu InTurn job end order
  pub headline : end ≡ Done → IsGenerationHeadline workload table before after order
