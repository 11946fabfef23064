-- The number of each end.
use Rattle.std.specs.Prelude.{ℕ}
use Rattle.tcreplay.specs.declared.outcome.End.{End}
use Rattle.tcreplay.specs.declared.outcome.End.TheVariants.{Done, Usage, BadTable, BadTrace, ReadFault, WriteFault, Memory, TooLong, Full, BadOrder, FileFault, AuditNo}

abbrev pub status_of : End → ℕ
status_of Done = 0
status_of Usage = 2
status_of (BadTable row why) = 3
status_of (BadTrace line why) = 4
status_of ReadFault = 5
status_of WriteFault = 6
status_of Memory = 7
status_of (TooLong limit) = 8
status_of (Full ticket) = 9
status_of (BadOrder line why) = 10
status_of FileFault = 11
status_of (AuditNo line why) = 12
