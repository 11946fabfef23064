-- The printed lines of a profile.
use Rattle.std.specs.Prelude.{ℕ, List, [], ◌∷◌, ◌++◌, codes, decimal}
use Rattle.std.specs.List.{flat_map}
use Rattle.usage_report.specs.Report.{line_of}
use Rattle.tc_model.specs.declared.answers.CallLine.{CallLine}
use Rattle.heap_sample.specs.declared.sample.ProfileRow.{ProfileRow}
use Rattle.heap_sample.specs.declared.sample.Peak.{Peak}
use Rattle.heap_sample.specs.Samples.{live_samples, peak_of}
use Rattle.heap_sample.specs.Rows.{rows_of}

-- the line of a row: its length, its samples, and what they stand for
abbrev pub profile_line : ProfileRow → List ℕ
profile_line row = line_of (codes "s") (decimal row.len ∷ decimal row.blocks ∷ decimal row.bytes ∷ [])

-- a line for each row, and the peak with the number of calls that first reach it
abbrev pub profile_text : List ProfileRow → Peak → List ℕ
profile_text rows peak = flat_map profile_line rows ++ line_of (codes "peak") (decimal peak.bytes ∷ decimal peak.call ∷ [])

-- The text of a profile as a function of the calls of a run: the rows of the samples that are live after them all, and the
-- peak over them.
abbrev pub profile_of_calls : ℕ → List CallLine → List ℕ
profile_of_calls step calls = profile_text (rows_of (live_samples step calls)) (peak_of step calls)
