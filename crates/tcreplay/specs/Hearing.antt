-- What a sampled profile is behind the calls of a run, and what is told beside them.
use Rattle.std.specs.Prelude.{◌≡◌, ◌<◌, ℕ, Bool, if◌then◌else◌, List, [], ◌++◌, length}
use Rattle.tc_model.specs.declared.answers.CallLine.{CallLine}
use Rattle.usage_report.specs.Report.{summary_of, row_lines}
use Rattle.tc_machine.specs.declared.totals.Totals.{Totals}
use Rattle.heap_sample.specs.Samples.{IsFirstUse, most_calls}
use Rattle.heap_sample.specs.Profiles.{Noted, IsProfileOf}

-- a profile of no call became that of these calls, of as many threads, by the same step
pub record HasSampled (before after : Noted) (calls : List CallLine) : Type 0 where
  pub step : after.step ≡ before.step
  pub threads : length after.asked ≡ length before.asked
  pub profile : IsProfileOf calls after

-- a call that it may note behind others: it is of one of the threads, and its label is new
pub record MaySample (before : Noted) (earlier : List CallLine) (line : CallLine) : Type 0 where
  pub thread : line.thread.0 < length before.asked
  pub first : IsFirstUse earlier line.call
  pub few : length earlier < most_calls

-- the summary of a run, and on demand a line for each hugepage
abbrev pub totals_text : Bool → Totals → List ℕ
totals_text rows t = summary_of t.calls t.live t.live_bytes t.used t.resident ++ row_lines (if rows then t.rows else [])
