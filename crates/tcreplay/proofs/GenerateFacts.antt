-- What the generation of a trace comes to, from what its steps come to.
use Rattle.std.proofs.Common.{◌≡◌, ◌⊎◌, ℕ, Bool, true, false, List, [], Option, Result, Ok, Err, refl, sym, ap, subst, ◌∙◌, inl, inr}
use Rattle.std.specs.Prelude.{IsOk}
use Rattle.std.proofs.Common.{arith}
use Rattle.tc_units.specs.declared.spans.ClassRow.{ClassRow}
use Rattle.tc_model.specs.Input.{Asked}
use Rattle.tc_ports.specs.Faults.{Rose}
use Rattle.tc_ports.specs.Told.{Took}
use Rattle.tc_ports.specs.Ends.{Reading, Shelving, Writing}
use Rattle.trace_reader.specs.Reading.{asked_by}
use Rattle.tcreplay.specs.declared.outcome.End.{End}
use Rattle.tcreplay.specs.declared.outcome.End.TheVariants.{Done, Usage, BadTrace, ReadFault, Memory, BadOrder, FileFault, AuditNo}
use Rattle.tcreplay.specs.declared.generate.Made.{Made}
use Rattle.tcreplay.specs.declared.run.Ran.{Ran}
use Rattle.tcreplay.specs.declared.run.Telling.TheVariants.{Summary}
use Rattle.tcreplay.specs.Tasks.{Workload, InTurn}
use Rattle.tcreplay.specs.Verdict.{Job, Verdict, and_then, rows_in, asked_of_text, run_verdict, order_by}
use Rattle.tcreplay.specs.Reads.{IsCounted, IsLoad, is_behind_run, seen_job}
use Rattle.tcreplay.specs.Ran.{seen_ran, IsRan}
use Rattle.tcreplay.specs.Writes.{Ends, TookText, IsRunEnd, IsLastEnd, IsAnswer}
use Rattle.tcreplay.specs.Machines.{per_cpu}
use Rattle.tcreplay.specs.Order.{IsOrderOf}
use Rattle.tcreplay.specs.Generating.{trace_of, generation_job, generation_verdict, IsMade, IsGenerationEnd, AreWritten, IsGenerationHeadline, HasGenerated}
use Rattle.tcreplay.proofs.EndFacts.{FailsTable, table_fails}
use Rattle.tcreplay.proofs.RanFacts.{run_end, order_is, lawful, text_is, have_all_ended, its_run}

-- a trace that is valid for any number of classes is valid under any class table
valid_under : (text : List ℕ) → ((classes : ℕ) → IsOk (asked_by classes text)) → (rows : List ClassRow) → IsOk (asked_of_text rows text)
valid_under text valid rows = grind (arith)

-- the job of a class table and of what a trace asks for
abbrev job_on : List ClassRow → Asked → Result Job End
job_on rows asked = Ok (record { input = record { rows = rows; asked = asked }; picks = [] })

module _ (workload : Workload) (f g : Shelving) (valid : (classes : ℕ) → IsOk (asked_by classes (trace_of workload))) where
  -- the class table gave none, or memory ran out behind it
  pub made_without : (end : End) → IsLoad (λ (rows : List ClassRow). rows) rows_in workload.classes f g (Err end) → IsMade workload f g (Err end)
  made_without end read = grind (arith, valid_under (trace_of workload) valid)

  pub made_memory : (rows : List ClassRow) → IsLoad (λ (rows : List ClassRow). rows) rows_in workload.classes f g (Ok rows) → IsMade workload f g (Err Memory)
  made_memory rows read = grind (arith, valid_under (trace_of workload) valid)

-- the ends that no generation has
abbrev is_barred : End → Bool
is_barred Usage = true
is_barred (BadTrace line why) = true
is_barred ReadFault = true
is_barred (BadOrder line why) = true
is_barred (AuditNo line why) = true
is_barred end = false

not_barred : FailsTable is_barred
not_barred = record { all = record { missing = refl; memory = refl; long = λ _. refl }; bad = λ _ _. refl }

generation_end_by : (end : End) → is_barred end ≡ false → IsGenerationEnd end
generation_end_by end is = grind (arith)

-- a replay that can't begin ends at the class table
table_ends : (workload : Workload) (end : End) → ((rows : List ClassRow) → IsOk (asked_of_text rows (trace_of workload)))
    → (file : Option (List ℕ)) (rows : Result (List ClassRow) End) → rows_in file ≡ rows → and_then (λ rows. and_then (job_on rows) (asked_of_text rows (trace_of workload))) rows ≡ Err end
    → rows_in file ≡ Err end
table_ends workload end valid file (Err other) is bad = let same : other ≡ end = cc in is ∙ ap Err same
table_ends workload end valid file (Ok rows) is bad = absurd (by_asked (asked_of_text rows (trace_of workload)) (valid rows) bad)
  where
    by_asked : (asked : Result Asked End) → IsOk asked → and_then (job_on rows) asked ≡ Err end → ⊥
    by_asked (Ok asked) is bad = cc
    by_asked (Err other) is bad = let never : false ≡ true = is in cc

-- memory ran out, or the load failed
abbrev Cut : Shelving → Shelving → End → Type 0
Cut f g end = (end ≡ Memory) ⊎ ((end ≡ FileFault) × Rose f.faults g.faults)

-- before a run nothing is written
not_written : (end : End) (trace summary : List ℕ) (out notes : Writing) → is_behind_run end ≡ false → AreWritten end trace summary out out notes notes
not_written end trace summary out notes early = grind (arith)

not_later : (end : End) → is_behind_run end ≡ false → is_behind_run end ≡ true → ⊥
not_later end early later = let e : false ≡ true = sym early ∙ later in cc

not_run : FailsTable is_behind_run
not_run = record { all = record { missing = refl; memory = refl; long = λ _. refl }; bad = λ _ _. refl }

-- the ends that a generation touches, at a moment
abbrev pub ends_of : Reading → Shelving → Writing → Writing → Ends
ends_of source files out notes = record { trace = source; files = files; out = out; notes = notes }

module _ (workload : Workload) (source : Reading) (f g : Shelving) (out notes : Writing) where
  stopped_by : (end : End) (order : List ℕ) (made : IsMade workload f g (Err end)) → IsAnswer (generation_verdict workload made.made.file) (Cut f g end) end order
      → is_barred end ≡ false → is_behind_run end ≡ false → IsCounted FileFault end f.faults g.faults
      → HasGenerated workload (ends_of source f out notes) (ends_of source g out notes) end order
  stopped_by end order made answer barred early count = grind (arith, generation_end_by, not_written, not_later)

  -- the work ended before the run
  generated_stopped : (end : End) (order : List ℕ) → order ≡ [] → IsMade workload f g (Err end) → HasGenerated workload (ends_of source f out notes) (ends_of source g out notes) end order
  generated_stopped end order none made = elim made.made.step [
    | inl e ↦
        let bad : rows_in made.made.file ≡ Err end = table_ends workload end made.valid made.made.file (rows_in made.made.file) refl e.0 in
        let answer : IsAnswer (generation_verdict workload made.made.file) (Cut f g end) end order = inl (sym (ap (λ r. (run_verdict per_cpu Summary r).end) e.0), none ∙ sym (ap (λ r. (run_verdict per_cpu Summary r).order) e.0)) in
        stopped_by end order made answer (table_fails is_barred made.made.file end not_barred bad) (table_fails is_behind_run made.made.file end not_run bad) (inl e.1)
    | inr (inl memory) ↦ stopped_by end order made (inr (inl (none, inl memory.0))) (ap is_barred memory.0) (ap is_behind_run memory.0) (inl memory.1)
    | inr (inr failed) ↦ stopped_by end order made (inr (inl (none, inr failed))) (ap is_barred failed.0) (ap is_behind_run failed.0) (inr failed)
  ]

  pub generated_ended : (end answered : End) (order : List ℕ) → answered ≡ end → order ≡ [] → IsMade workload f g (Err end)
      → HasGenerated workload (ends_of source f out notes) (ends_of source g out notes) answered order
  generated_ended end answered order same none made = subst (λ e. HasGenerated workload (ends_of source f out notes) (ends_of source g out notes) e order) (sym same) (generated_stopped end order none made)

-- the end of a run, or a write fault behind it, is one that a generation has
run_generation_end : (end : End) → IsRunEnd end → IsGenerationEnd end
run_generation_end end is = grind (arith)

last_generation_end : (ran end : End) → IsRunEnd ran → IsLastEnd ran end → IsGenerationEnd end
last_generation_end ran end is (inl same) = subst IsGenerationEnd (sym same) (run_generation_end ran is)
last_generation_end ran end is (inr failed) = subst IsGenerationEnd (sym failed.0) tt

module _ (workload : Workload) (source : Reading) (f g : Shelving) (out written_out notes written_notes : Writing) (made : Made) (text : List ℕ) (ran : Ran) (end : End) (order : List ℕ)
    (whole : text ≡ made.text.items) (of : IsMade workload f g (Ok made)) (is : IsRan per_cpu Summary (seen_job made.job).input (order_by per_cpu.rules (seen_job made.job)) ran) (last : IsLastEnd ran.end end) (same : order ≡ ran.order.items)
    (written : AreWritten end text ran.text.items out written_out notes written_notes) where
  abbrev job : Job
  job = seen_job made.job

  abbrev file : Option (List ℕ)
  file = of.made.file

  verdict_is : generation_verdict workload file ≡ seen_ran ran
  verdict_is = ap (run_verdict per_cpu Summary) of.made.step.0 ∙ sym is.is

  answered : IsLastEnd ran.end end → IsAnswer (generation_verdict workload file) (Cut f g end) end order
  answered (inl e) = inl (e ∙ sym (ap (λ (v : Verdict). v.end) verdict_is), same ∙ sym (ap (λ (v : Verdict). v.order) verdict_is))
  answered (inr failed) = inr (inr (failed.0, same ∙ sym (ap (λ (v : Verdict). v.order) verdict_is), ap (λ (v : Verdict). v.end) verdict_is ∙ failed.1))

  text_made : text ≡ trace_of workload
  text_made = whole ∙ of.text

  both : end ≡ Done → TookText text out written_out × TookText ran.text.items notes written_notes
  both done = subst (λ e. AreWritten e text ran.text.items out written_out notes written_notes) done written

  headline : end ≡ Done → IsGenerationHeadline workload file (ends_of source f out notes) (ends_of source g written_out written_notes) order
  headline done = record {
    job = job;
    asked = of.made.step.0;
    order_is = order_is per_cpu Summary job ran end order is last same;
    ended = have_all_ended per_cpu Summary job ran end order is last same done;
    trace = subst (Took out.taken written_out.taken) text_made (both done).0.taken;
    summary = subst (Took notes.taken written_notes.taken) (text_is per_cpu Summary job ran end order is last same done) (both done).1.taken;
    law = lawful per_cpu Summary job ran end order is last same;
  }

  -- of the one job that was made
  of_job : (p : Job → Type 0) → p job → (other : Job) → generation_job workload file ≡ Ok other → p other
  of_job p holds other is_other = grind (arith)

  -- the trace was replayed
  pub generated_ran : HasGenerated workload (ends_of source f out notes) (ends_of source g written_out written_notes) end order
  generated_ran = record {
    table = file;
    told = of.made.told;
    valid = of.valid;
    answer = answered last;
    ends = last_generation_end ran.end end (run_end per_cpu Summary job.input (order_by per_cpu.rules job) ran is) last;
    trace = refl;
    files = of.made.files;
    once = of.made.once;
    file_count = inl of.made.step.1;
    written = subst (λ (v : Verdict). AreWritten end (trace_of workload) v.text out written_out notes written_notes) (sym verdict_is) (subst (λ t. AreWritten end t ran.text.items out written_out notes written_notes) text_made written);
    law = λ _. of_job (λ (j : Job). per_cpu.lawful j.input order) (lawful per_cpu Summary job ran end order is last same);
    run = λ _. of_job (λ (j : Job). IsOrderOf per_cpu InTurn j end order) (its_run per_cpu Summary job ran end order is last same InTurn tt);
    headline = headline;
  }
