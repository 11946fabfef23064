use Rattle.std.proofs.Common.{◌≡◌, take}
use Rattle.numa_heaps.specs.Opening.{owners_behind}
use Rattle.numa_heaps.proofs.opening.note_labels.Given as goal

abbrev pub invariant-loop-place : goal.invariant-loop-place
invariant-loop-place l = l.owners ≡ owners_behind l.here l.fn.owners (take l.place l.calls)
