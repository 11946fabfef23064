-- The rows so far are what the text reads as, up to what the reader has yet to give.
use Rattle.std.proofs.Common.{◌-◌, vec_len}
use Rattle.size_classes.proofs.Progress.{Going}
use Rattle.size_classes.proofs.table.ClassTable.read.Given as goal

abbrev pub invariant-records : goal.invariant-records
invariant-records l = Going l.bytes l.reader l.rows.items l.above

abbrev pub decreases-records : goal.decreases-records
decreases-records l = 120 - vec_len l.rows
