use Rattle.std.proofs.Common.{arith}
use Rattle.span_list.proofs.SpanFacts.{count_both}
use Rattle.span_list.proofs.span.Span.free.Goals as goal

pub returns : goal.returns
returns c = grind (arith, count_both)
