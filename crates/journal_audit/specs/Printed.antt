-- The text of a run is a legal journal.
use Rattle.std.specs.Prelude.{ℕ, ◌≡◌, List, ◌++◌, All}
use Rattle.tc_units.specs.Classes.{length_of}
use Rattle.tc_units.specs.declared.rows.RowView.{RowView}
use Rattle.tc_model.specs.declared.answers.CallLine.{CallLine}
use Rattle.tc_model.specs.Blocks.{IsBlockRun}
use Rattle.usage_report.specs.Report.{IsTellable, text_of}
use Rattle.journal_audit.specs.Rules.{Plan, journal_of}
use Rattle.journal_audit.specs.Legal.{calls_of, calls_planned, IsLegal}

-- The law of journals. Calls are a run on disjoint blocks, those of each thread are its script, and their numbers have 64
-- bits: then the lines of calls of the text that is printed of them are a legal journal. What stands behind the line that
-- counts the calls isn't read, so any further text may, such as that of a profile.
abbrev pub PrintedIsLegal : Type 0
PrintedIsLegal = (plan : Plan) (calls : List CallLine) (live live_bytes used resident : ℕ) (rows : List RowView) (more : List ℕ)
    → IsBlockRun plan.huge (length_of plan.rows) calls → ((thread : ℕ) → calls_of thread calls ≡ calls_planned plan thread) → All IsTellable calls
    → IsLegal plan (journal_of (text_of calls live live_bytes used resident rows ++ more))
