use Rattle.std.proofs.Common.{◌≡◌, ◌+◌, ◌≤◌, length}
use Rattle.trace_reader.specs.Limits.{most_lines}
use Rattle.trace_reader.specs.Orders.{read_order_lines, picks_by}
use Rattle.trace_reader.proofs.order.read_order.Given as goal

-- the lines that are left, behind the picks so far, give what the whole text gives
abbrev pub invariant-loop-line : goal.invariant-loop-line
invariant-loop-line l = record {
  read : read_order_lines l.threads l.picked.picks.items (l.lines.given + 1) l.lines.lines ≡ picks_by l.threads l.bytes;
  given : l.lines.given ≤ most_lines;
}

abbrev pub decreases-loop-line : goal.decreases-loop-line
decreases-loop-line l = length l.lines.lines
