use Rattle.std.proofs.Common.{◌≡◌, ◌++◌, take}
use Rattle.usage_report.specs.Report.{row_lines}
use Rattle.usage_report.proofs.rows.push_rows.Given as goal

abbrev pub invariant-loop-i : goal.invariant-loop-i
invariant-loop-i l = l.text.items ≡ l.fn.text.items ++ row_lines (take l.i l.rows)
