-- What the top call comes to: what the words ask for is done, the end is told, and where nothing failed that is complete.
use Rattle.std.specs.Prelude.{◌≡◌, ℕ, ◌⊎◌, List, [], Option, Some, None}
use Rattle.std.specs.FinMap.{get}
use Rattle.tc_ports.specs.Faults.{Rose}
use Rattle.tc_ports.specs.Shelves.{Files}
use Rattle.tc_ports.specs.Ends.{Writing}
use Rattle.tcreplay.specs.declared.outcome.End.{End}
use Rattle.tcreplay.specs.declared.outcome.End.TheVariants.{Usage, Memory}
use Rattle.tcreplay.specs.Tasks.{Task, ToReplay, ToGenerate, ToAudit}
use Rattle.tcreplay.specs.Verdict.{Given}
use Rattle.tcreplay.specs.Reads.{AreTold, AreGiven}
use Rattle.tcreplay.specs.Writes.{Ends, IsNoted}
use Rattle.tcreplay.specs.Replayed.{HasTried, verdict_on}
use Rattle.tcreplay.specs.Generating.{HasGenerated, generation_verdict}
use Rattle.tcreplay.specs.Auditing.{HasAudited, audit_verdict}

-- what the words come to before the end is told: where they aren't in the grammar, nothing is read or written
abbrev pub IsAnswered : Option Task → Ends → Ends → End → List ℕ → Type 0
IsAnswered None before after end order = (end ≡ Usage) × (order ≡ []) × (after ≡ before)
IsAnswered (Some (ToReplay replay)) before after end order = HasTried replay before.trace after.trace before.files after.files before.out after.out end order × (after.notes ≡ before.notes)
IsAnswered (Some (ToGenerate workload)) before after end order = HasGenerated workload before after end order
IsAnswered (Some (ToAudit audit)) before after end order = HasAudited audit before.trace after.trace before.files after.files before.out after.out end order × (after.notes ≡ before.notes)

-- What a call comes to: the words are answered, and behind what `notes` had taken by then the end is told.
pub record IsOutcome (asked : Option Task) (before after : Ends) (end : End) (order : List ℕ) : Type 0 where
  pub noted : Writing
  pub answered : IsAnswered asked before (record after { notes = noted }) end order
  pub notes : IsNoted end noted after.notes

-- a count of faults rose at one of the ends that the task can't do without
abbrev pub SomeRose : Task → Ends → Ends → Type 0
SomeRose (ToGenerate workload) before after =
    Rose before.files.faults after.files.faults ⊎ (Rose before.out.faults after.out.faults ⊎ Rose before.notes.faults after.notes.faults)
SomeRose other before after =
    Rose before.trace.faults after.trace.faults ⊎ (Rose before.files.faults after.files.faults ⊎ Rose before.out.faults after.out.faults)

-- Completeness. Where the ends tell what they have, the end and the order are those of the verdict on what they tell, and of
-- worker threads on some picks that these made, unless memory ran out or a count of faults rose.
abbrev pub IsComplete : Option Task → Ends → Ends → End → List ℕ → Type 0
IsComplete None before after end order = end ≡ Usage
IsComplete (Some (ToReplay replay)) before after end order =
    (all : Files) (text : List ℕ) → before.files.files ≡ Some all → before.trace.left ≡ Some text →
    ((given : Given) × AreGiven replay (Some all) (Some text) given × (end ≡ (verdict_on replay given).end) × (order ≡ (verdict_on replay given).order))
    ⊎ ((end ≡ Memory) ⊎ SomeRose (ToReplay replay) before after)
IsComplete (Some (ToAudit audit)) before after end order =
    (all : Files) (text : List ℕ) → before.files.files ≡ Some all → before.trace.left ≡ Some text →
    ((given : Given) × AreTold audit.classes (Some audit.journal) (Some all) (Some text) given × (end ≡ (audit_verdict given).end))
    ⊎ ((end ≡ Memory) ⊎ SomeRose (ToAudit audit) before after)
IsComplete (Some (ToGenerate workload)) before after end order =
    (all : Files) → before.files.files ≡ Some all →
    ((end ≡ (generation_verdict workload (get all workload.classes)).end) × (order ≡ (generation_verdict workload (get all workload.classes)).order))
    ⊎ ((end ≡ Memory) ⊎ SomeRose (ToGenerate workload) before after)
