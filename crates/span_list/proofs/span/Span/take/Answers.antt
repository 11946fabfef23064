use Rattle.std.proofs.Common.{◌≡◌, position, Some, sym, ◌∙◌, arith}
use Rattle.std.proofs.lemmas.List.{length-set}
use Rattle.span_list.specs.Span.{SpanState}
use Rattle.std.proofs.lemmas.List.Quantifiers.{position-Some}
use Rattle.span_list.proofs.SpanFacts.{count_none, count_some, take_counts, take_moves, IsTaken-given, IsTaken-after_take, IsTaken-fresh}
use Rattle.span_list.proofs.span.Span.take.Goals as goal

pub returns-in_err-index-clause-none : goal.returns-in_err-index-clause-none
returns-in_err-index-clause-none c = grind (arith, count_none)

pub invariant_of-self : goal.invariant_of-self
invariant_of-self c = grind (arith, length-set, take_counts)

pub returns-clause-none : goal.returns-clause-none
returns-clause-none c = grind (arith, count_some)

pub returns-clause-moves : goal.returns-clause-moves
returns-clause-moves c = grind (arith, take_moves)

pub returns-clause-given : goal.returns-clause-given
returns-clause-given c =
    let first : position (λ b. b) c.self.inside.free ≡ Some c.in_ok-index.index = sym c.first.ensures ∙ c.in_ok-index.was in
    let s : SpanState = record { span = c.self.inside.span; size = c.self.inside.size; free = c.self.inside.free } in
    grind (arith, IsTaken-given s c.in_ok-index.index first)

pub returns-clause-kept : goal.returns-clause-kept
returns-clause-kept c = grind (arith, IsTaken-after_take, position-Some)

pub returns-clause-fresh : goal.returns-clause-fresh
returns-clause-fresh c =
    let first : position (λ b. b) c.self.inside.free ≡ Some c.in_ok-index.index = sym c.first.ensures ∙ c.in_ok-index.was in
    let s : SpanState = record { span = c.self.inside.span; size = c.self.inside.size; free = c.self.inside.free } in
    grind (arith, IsTaken-fresh s c.in_ok-index.index c.self.invariant.0.some first)
