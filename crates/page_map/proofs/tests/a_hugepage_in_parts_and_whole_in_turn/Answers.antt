use Rattle.std.proofs.Common.{Contains, subst, sym}
use Rattle.page_map.specs.Spans.{SpanMap}
use Rattle.page_map.proofs.SpanFacts.{with_span-there}
use Rattle.page_map.proofs.tests.a_hugepage_in_parts_and_whole_in_turn.Goals as goal

pub clear-requires-2 : goal.clear-requires-2
clear-requires-2 g c = subst (λ (map : SpanMap). Contains map.spans c.large-whole.result) (sym c.in_ok-set-2.ensures.ok) (with_span-there c.large-whole.result c.clear.new.self.spans)
