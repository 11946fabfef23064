use Rattle.std.proofs.Common.{arith}
use Rattle.trace_gen.proofs.CallSteps.{more_text, more_said, more_state, more_labels}
use Rattle.trace_gen.proofs.Valid.{lines_good, trace_read}
use Rattle.trace_gen.proofs.trace.generate.Goals as goal

pub push_call-requires-clause-good : goal.push_call-requires-clause-good
push_call-requires-clause-good c = grind (arith, lines_good)

pub loop-i-preserved : goal.loop-i-preserved
loop-i-preserved c = grind (arith, more_text, more_said, more_state, more_labels)

pub returns-clause-trace : goal.returns-clause-trace
returns-clause-trace c classes = grind (arith, trace_read)

pub returns-clause-valid : goal.returns-clause-valid
returns-clause-valid c classes = grind (arith, trace_read)
