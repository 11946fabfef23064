use Rattle.std.proofs.Common.{◌≡◌, ◌≤◌, take}
use Rattle.std.specs.List.{position_or_len}
use Rattle.trace_text.specs.Lines.{is_space}
use Rattle.trace_text.proofs.Numbers.{AreRead}
use Rattle.trace_text.proofs.fields.first_number.Given as goal

-- no space yet, and the bytes so far are digits that spell the value
abbrev pub invariant-loop-byte : goal.invariant-loop-byte
invariant-loop-byte l = record {
  length : l.length ≡ l.byte-index;
  before : l.length ≤ position_or_len is_space l.rest;
  read : AreRead l.most l.value l.length (take (position_or_len is_space l.rest) l.rest);
}
