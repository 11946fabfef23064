use Rattle.std.proofs.Common.{◌≡◌, ◌+◌, length}
use Rattle.trace_reader.proofs.form.are_left.Given as goal

-- each turn takes a field
abbrev pub invariant-loop-field : goal.invariant-loop-field
invariant-loop-field l = l._field + length l.fields.fields ≡ length l.fn.fields.fields
