use Rattle.std.proofs.Common.{Contains, subst, sym}
use Rattle.page_map.specs.Spans.{SpanMap}
use Rattle.page_map.proofs.SpanFacts.{with_span-there}
use Rattle.page_map.proofs.tests.spans_at_the_ends_of_the_largest_arena.Goals as goal

pub clear-requires : goal.clear-requires
clear-requires g c = subst (λ (map : SpanMap). Contains map.spans c.large-between.result) (sym c.in_ok-set-3.ensures.ok) (with_span-there c.large-between.result c.set-2.new.self.spans)
