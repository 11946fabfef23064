use Rattle.std.proofs.Common.{◌≤◌}
use Rattle.trace_text.proofs.tests.cut.Given as goal

-- a line is given in each turn
abbrev pub invariant-loop-count : goal.invariant-loop-count
invariant-loop-count l = l.lines.given ≤ l._count
