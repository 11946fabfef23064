use Rattle.std.proofs.Common.{arith}
use Rattle.trace_reader.proofs.Valids.{IsSoFar-nothing}
use Rattle.trace_reader.proofs.trace.read_trace.Goals as goal

pub loop-line-init : goal.loop-line-init
loop-line-init c = grind (arith, IsSoFar-nothing c.args.classes)
