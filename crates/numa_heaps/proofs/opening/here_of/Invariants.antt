use Rattle.std.proofs.Common.{◌≡◌}
use Rattle.numa_heaps.specs.Opening.{locals_by}
use Rattle.numa_heaps.proofs.opening.here_of.Given as goal

abbrev pub invariant-loop-node : goal.invariant-loop-node
invariant-loop-node l = l.here.items ≡ locals_by l.setting l.fn.nodes.count l.thread.0 l.owners l.calls l.node
