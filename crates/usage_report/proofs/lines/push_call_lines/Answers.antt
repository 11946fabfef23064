use Rattle.std.proofs.Common.{arith}
use Rattle.std.proofs.lemmas.Grind.{common_steps}
use Rattle.std.proofs.lemmas.List.Elements.{All-more}
use Rattle.usage_report.specs.Report.{IsTellable}
use Rattle.usage_report.proofs.lines.push_call_lines.Goals as goal

pub loop-call-preserved : goal.loop-call-preserved
loop-call-preserved c = record {
  lines = grind (arith, common_steps);
  tellable = All-more IsTellable c.args.calls.now c.loop-call.call-index _ c.loop-call-test.true c.loop-call.invariant.tellable
      c.in_ok-push_call_line.ensures.tellable;
}
