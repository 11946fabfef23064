use Rattle.std.proofs.Common.{◌≡◌, ◌+◌, ◌≤◌, length}
use Rattle.trace_reader.specs.Limits.{most_lines}
use Rattle.trace_reader.specs.Reading.{read_lines, asked_by}
use Rattle.trace_reader.specs.Steps.{so_far, IsReading, IsSoFar}
use Rattle.trace_reader.proofs.trace.read_trace.Given as goal

-- the lines that are left, behind what was read, give what the whole text gives
abbrev pub invariant-loop-line : goal.invariant-loop-line
invariant-loop-line l = record {
  read : read_lines l.classes (so_far l.reader) (l.lines.given + 1) l.lines.lines ≡ asked_by l.classes l.bytes;
  reading : IsReading l.reader;
  valid : IsSoFar l.classes (so_far l.reader);
  calls : length (so_far l.reader).asked.calls ≤ l.lines.given;
  few : l.lines.given ≤ most_lines;
}

abbrev pub decreases-loop-line : goal.decreases-loop-line
decreases-loop-line l = length l.lines.lines
