-- Where the ends tell what they have, what a replay comes to is the verdict on that.
use Rattle.std.proofs.Common.{◌≡◌, ◌⊎◌, ℕ, List, Option, Some, None, sym, subst, inl, inr, arith}
use Rattle.std.specs.Prelude.{◌↔◌}
use Rattle.std.specs.FinMap.{get}
use Rattle.tc_ports.specs.Shelves.{Files}
use Rattle.tc_ports.specs.Ends.{Writing}
use Rattle.tcreplay.specs.declared.outcome.End.{End}
use Rattle.tcreplay.specs.declared.outcome.End.TheVariants.{Usage, WriteFault, Memory}
use Rattle.tcreplay.specs.Tasks.{Front, Replay, Workload, Audit, Task, ToReplay, ToGenerate, ToAudit}
use Rattle.tcreplay.specs.Verdict.{Given}
use Rattle.tc_ports.specs.Faults.{Rose}
use Rattle.tcreplay.specs.Reads.{IsFile, AreTold, AreGiven, CutOff}
use Rattle.tcreplay.specs.Writes.{Ends, IsNoted}
use Rattle.tcreplay.specs.Generating.{AreWritten, HasGenerated}
use Rattle.tcreplay.specs.Auditing.{HasAudited}
use Rattle.tcreplay.specs.Replayed.{HasTried}
use Rattle.tcreplay.specs.Outcomes.{IsAnswered, IsOutcome, SomeRose, IsComplete}

-- what came between is want of memory, or a count that rose
cut_by : (runner : Option Front) (given : Given) (before after : Ends) (end : End) → CutOff runner given before.trace after.trace before.files after.files end
    → (end ≡ Memory) ⊎ (Rose before.trace.faults after.trace.faults ⊎ (Rose before.files.faults after.files.faults ⊎ Rose before.out.faults after.out.faults))
cut_by runner given before after end cut = grind (arith)

told_in : (replay : Replay) (given : Given) (before : Ends) (all : Files) (text : List ℕ) → before.files.files ≡ Some all → before.trace.left ≡ Some text
    → AreGiven replay before.files.files before.trace.left given → AreGiven replay (Some all) (Some text) given
told_in replay given before all text files left told = subst (λ l. AreGiven replay (Some all) l given) left (subst (λ s. AreGiven replay s before.trace.left given) files told)

complete_tried : (replay : Replay) (before after : Ends) (end : End) (order : List ℕ)
    → HasTried replay before.trace after.trace before.files after.files before.out after.out end order
    → IsComplete (Some (ToReplay replay)) before after end order
complete_tried replay before after end order tried all text files left = grind (arith, told_in replay tried.given before all text files left tried.told, cut_by (Some replay.front) tried.given before after end)

-- a count that rose, and then stood still or rose again
rose_on : (old mid new : ℕ) → Rose old mid → (new ≡ mid) ⊎ Rose mid new → Rose old new
rose_on old mid new rose (inl same) = subst (Rose old) (sym same) rose
rose_on old mid new rose (inr again) = let a = rose.0 in let b = again.0 in (omega (arith, a, b), λ room. let c = again.1 room in let d = rose.1 (omega (arith, c, room)) in omega (arith, c, d))

noted_count : (end : End) (before after : Writing) → IsNoted end before after → (after.faults ≡ before.faults) ⊎ Rose before.faults after.faults
noted_count end before after same = grind (arith)

-- a trace was generated
generation_told : (workload : Workload) (all : Files) (files : Option Files) (table : Option (List ℕ)) → files ≡ Some all → IsFile files workload.classes table → table ≡ get all workload.classes
generation_told workload all files table told is = subst (λ s. IsFile s workload.classes table) told is

write_rose : (workload : Workload) (trace summary : List ℕ) (before after : Ends) (noted : Writing)
    → AreWritten WriteFault trace summary before.out after.out before.notes noted
    → (after.notes.faults ≡ noted.faults) ⊎ Rose noted.faults after.notes.faults → SomeRose (ToGenerate workload) before after
write_rose workload trace summary before after noted (inl part) count = inr (inl part.0.rose)
write_rose workload trace summary before after noted (inr part) count = inr (inr (rose_on before.notes.faults noted.faults after.notes.faults part.1.rose count))

complete_generated : (workload : Workload) (before after : Ends) (noted : Writing) (end : End) (order : List ℕ)
    → HasGenerated workload before (record after { notes = noted }) end order → IsNoted end noted after.notes
    → IsComplete (Some (ToGenerate workload)) before after end order
complete_generated workload before after noted end order generated told all files = grind (arith, generation_told, write_rose, noted_count)

-- a journal was judged
audit_told_in : (audit : Audit) (given : Given) (before : Ends) (all : Files) (text : List ℕ) → before.files.files ≡ Some all → before.trace.left ≡ Some text
    → AreTold audit.classes (Some audit.journal) before.files.files before.trace.left given
    → AreTold audit.classes (Some audit.journal) (Some all) (Some text) given
audit_told_in audit given before all text files left told =
    subst (λ l. AreTold audit.classes (Some audit.journal) (Some all) l given) left (subst (λ s. AreTold audit.classes (Some audit.journal) s before.trace.left given) files told)

complete_audited : (audit : Audit) (before after : Ends) (end : End) (order : List ℕ)
    → HasAudited audit before.trace after.trace before.files after.files before.out after.out end order
    → IsComplete (Some (ToAudit audit)) before after end order
complete_audited audit before after end order tried all text files left = grind (arith, audit_told_in audit tried.given before all text files left tried.told, cut_by None tried.given before after end)

-- the clauses of the top call, by what the words ask for
pub usage_by : (asked : Option Task) (before after : Ends) (end : End) (order : List ℕ) → IsAnswered asked before after end order → (end ≡ Usage) ↔ (asked ≡ None)
usage_by asked before after end order refused = grind (arith)

complete_by : (asked : Option Task) (before after : Ends) (noted : Writing) (end : End) (order : List ℕ)
    → IsAnswered asked before (record after { notes = noted }) end order → IsNoted end noted after.notes → IsComplete asked before after end order
complete_by None before after noted end order refused told = refused.0
complete_by (Some (ToReplay replay)) before after noted end order tried told = complete_tried replay before after end order tried.0
complete_by (Some (ToGenerate workload)) before after noted end order generated told = complete_generated workload before after noted end order generated told
complete_by (Some (ToAudit audit)) before after noted end order tried told = complete_audited audit before after end order tried.0

pub complete_is : (asked : Option Task) (before after : Ends) (end : End) (order : List ℕ) → IsOutcome asked before after end order → IsComplete asked before after end order
complete_is asked before after end order outcome = complete_by asked before after outcome.noted end order outcome.answered outcome.notes
