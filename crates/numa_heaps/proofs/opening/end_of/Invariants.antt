use Rattle.std.proofs.Common.{◌≡◌, take}
use Rattle.numa_heaps.specs.Opening.{end_of}
use Rattle.numa_heaps.proofs.opening.end_of.Given as goal

abbrev pub invariant-loop-place : goal.invariant-loop-place
invariant-loop-place l = l.end ≡ end_of (take l.place l.calls)
