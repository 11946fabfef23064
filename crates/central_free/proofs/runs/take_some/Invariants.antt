use Rattle.central_free.proofs.RunFacts.{IsGiving}
use Rattle.central_free.proofs.runs.take_some.Given as goal

abbrev pub invariant-loop-came : goal.invariant-loop-came
invariant-loop-came l = IsGiving l.initial.span l.initial.out l.span l.out l._came
