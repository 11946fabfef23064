use Rattle.std.proofs.Common.{◌≢◌, ℕ, ◌<◌, length, get_or}
use Rattle.tc_units.specs.declared.units.Addr.{Addr}
use Rattle.central_free.proofs.central.tests.are_different.Given as goal

abbrev pub invariant-loop-place : goal.invariant-loop-place
invariant-loop-place l =
    (i j : ℕ) (d : Addr) → i < l.place → i < j → j < length l.list → get_or l.list i d ≢ get_or l.list j d
