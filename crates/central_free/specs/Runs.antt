-- Several objects of one span, one after another.
use Rattle.std.specs.Prelude.{ℕ, zero, suc, List, [], ◌++◌}
use Rattle.std.specs.Option.{option_to_list}
use Rattle.tc_units.specs.declared.units.Addr.{Addr}
use Rattle.span_list.specs.Span.{SpanState, least, taken_from, after_take}

-- a span from which some objects were taken, each the free one of least index
abbrev pub span_after : ℕ → SpanState → SpanState
span_after zero s = s
span_after (suc n) s = after_take (span_after n s) (least (span_after n s))

-- those objects, in their order
abbrev pub given_by : ℕ → SpanState → List Addr
given_by zero s = []
given_by (suc n) s = given_by n s ++ option_to_list (taken_from (span_after n s) (least (span_after n s)))
