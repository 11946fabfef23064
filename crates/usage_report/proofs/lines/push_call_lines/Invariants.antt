use Rattle.std.proofs.Common.{◌≡◌, ◌++◌, take}
use Rattle.std.specs.List.{All, flat_map}
use Rattle.usage_report.specs.Report.{call_line, IsTellable}
use Rattle.usage_report.proofs.lines.push_call_lines.Given as goal

abbrev pub invariant-loop-call : goal.invariant-loop-call
invariant-loop-call l = record {
  lines : l.text.items ≡ l.fn.text.items ++ flat_map call_line (take l.call-index l.calls);
  tellable : All IsTellable (take l.call-index l.calls);
}
