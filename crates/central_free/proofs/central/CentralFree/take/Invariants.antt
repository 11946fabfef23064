use Rattle.std.proofs.Common.{◌-◌, ◌≤◌}
use Rattle.central_free.proofs.TookFacts.{IsTaking}
use Rattle.central_free.proofs.central.CentralFree.take.Given as goal

abbrev pub invariant-loop-came : goal.invariant-loop-came
invariant-loop-came l = IsTaking l.initial.self l.self l.initial.out l.out l.came × (l.came ≤ l.n)

abbrev pub decreases-loop-came : goal.decreases-loop-came
decreases-loop-came l = l.n - l.came
