-- The line that tells an end: the end's cause behind the program's name. A rule is told by its name in small letters.
use Rattle.std.specs.Prelude.{ℕ, List, ◌++◌, codes, decimal}
use Rattle.size_classes.specs.declared.fault.RowWhy.{RowWhy}
use Rattle.size_classes.specs.declared.fault.RowWhy.TheVariants as row
use Rattle.trace_reader.specs.declared.why.LineWhy.{LineWhy}
use Rattle.trace_reader.specs.declared.why.LineWhy.TheVariants as line
use Rattle.trace_reader.specs.declared.why.OrderWhy.{OrderWhy}
use Rattle.trace_reader.specs.declared.why.OrderWhy.TheVariants as order
use Rattle.journal_audit.specs.declared.verdict.AuditWhy.{AuditWhy}
use Rattle.journal_audit.specs.declared.verdict.AuditWhy.TheVariants as audit
use Rattle.tcreplay.specs.declared.outcome.End.{End}
use Rattle.tcreplay.specs.declared.outcome.End.TheVariants.{Done, Usage, BadTable, BadTrace, ReadFault, WriteFault, Memory, TooLong, Full, BadOrder, FileFault, AuditNo}

-- the rule that a record of a class table fails
abbrev pub row_word : RowWhy → List ℕ
row_word row.Rows = codes "rows"
row_word row.Fields = codes "fields"
row_word row.Number = codes "number"
row_word row.Size = codes "size"
row_word row.Rise = codes "rise"
row_word row.Pages = codes "pages"
row_word row.Fit = codes "fit"
row_word row.Batch = codes "batch"
row_word row.Empty = codes "empty"

-- the rule that a line of a trace fails
abbrev pub line_word : LineWhy → List ℕ
line_word line.Lines = codes "lines"
line_word line.Word = codes "word"
line_word line.HeadLate = codes "headlate"
line_word line.Fields = codes "fields"
line_word line.Number = codes "number"
line_word line.Thread = codes "thread"
line_word line.Cpu = codes "cpu"
line_word line.Class = codes "class"
line_word line.LabelUsed = codes "labelused"
line_word line.LabelUnknown = codes "labelunknown"
line_word line.LabelFreed = codes "labelfreed"
line_word line.NotHere = codes "nothere"

-- the rule that a line of an order file fails
abbrev pub order_word : OrderWhy → List ℕ
order_word order.Lines = codes "lines"
order_word order.Fields = codes "fields"
order_word order.Number = codes "number"
order_word order.Thread = codes "thread"
order_word order.Picks = codes "picks"

-- the rule that a journal fails
abbrev pub audit_word : AuditWhy → List ℕ
audit_word audit.Lines = codes "lines"
audit_word audit.Form = codes "form"
audit_word audit.Order = codes "order"
audit_word audit.Length = codes "length"
audit_word audit.Arena = codes "arena"
audit_word audit.Overlap = codes "overlap"
audit_word audit.Address = codes "address"
audit_word audit.Missing = codes "missing"

-- the number of a record or a line, and the rule that it fails
abbrev pub place_of : List ℕ → ℕ → List ℕ → List ℕ
place_of what number why = what ++ decimal number ++ codes ": " ++ why

-- the cause of an end; there is none at the end of the work
abbrev pub cause_of : End → List ℕ
cause_of Done = codes ""
cause_of Usage = codes "usage"
cause_of (BadTable row why) = place_of (codes "table row ") row (row_word why)
cause_of (BadTrace line why) = place_of (codes "trace line ") line (line_word why)
cause_of ReadFault = codes "read fault"
cause_of WriteFault = codes "write fault"
cause_of Memory = codes "out of memory"
cause_of (TooLong limit) = codes "longer than " ++ decimal limit ++ codes " bytes"
cause_of (Full ticket) = codes "events limit " ++ decimal ticket
cause_of (BadOrder line why) = place_of (codes "order line ") line (order_word why)
cause_of FileFault = codes "file fault"
cause_of (AuditNo line why) = place_of (codes "audit line ") line (audit_word why)

-- the line that tells an end
abbrev pub note_of : End → List ℕ
note_of end = codes "tcreplay: " ++ cause_of end ++ codes "\n"
