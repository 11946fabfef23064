use Rattle.std.proofs.Common.{◌≡◌, take}
use Rattle.numa_heaps.specs.Opening.{route_by}
use Rattle.numa_heaps.proofs.opening.route_of.Given as goal

abbrev pub invariant-loop-place : goal.invariant-loop-place
invariant-loop-place l = l.route.items ≡ route_by l.here l.owners (take l.place l.calls)
