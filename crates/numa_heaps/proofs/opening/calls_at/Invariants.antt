use Rattle.std.proofs.Common.{◌≡◌, take}
use Rattle.numa_heaps.specs.Opening.{calls_by}
use Rattle.numa_heaps.proofs.opening.calls_at.Given as goal

abbrev pub invariant-loop-place : goal.invariant-loop-place
invariant-loop-place l = l.kept ≡ calls_by l.here l.owners l.node.0 (take l.place l.calls)
