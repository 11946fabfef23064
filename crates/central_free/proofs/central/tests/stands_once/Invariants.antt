use Rattle.std.proofs.Common.{◌≢◌, ℕ, ◌<◌, get_or}
use Rattle.tc_units.specs.declared.units.Addr.{Addr}
use Rattle.central_free.proofs.central.tests.stands_once.Given as goal

abbrev pub invariant-loop-k : goal.invariant-loop-k
invariant-loop-k l = (j : ℕ) (d : Addr) → j < l.k → j ≢ l.place → get_or l.list j d ≢ get_or l.list l.place d
