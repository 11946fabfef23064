use Rattle.std.proofs.Common.{◌≡◌, ◌<◌, ℕ, Some}
use Rattle.span_list.specs.Span.{SpanState}
use Rattle.central_free.specs.Central.{IsApartFrom}
use Rattle.central_free.specs.Slots.{slot_at}
use Rattle.central_free.proofs.central.tests.is_clear.Given as goal

abbrev pub invariant-loop-slot : goal.invariant-loop-slot
invariant-loop-slot l =
    (k : ℕ) (s : SpanState) → k < l.slot → slot_at l.central-inside.slots.slots k ≡ Some s → IsApartFrom l.span s
