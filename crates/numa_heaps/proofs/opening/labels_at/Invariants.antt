use Rattle.std.proofs.Common.{◌≡◌}
use Rattle.tc_machine.specs.Inputs.{script_at}
use Rattle.numa_heaps.specs.Opening.{labels_by}
use Rattle.numa_heaps.proofs.opening.labels_at.Given as goal

abbrev pub invariant-loop-thread : goal.invariant-loop-thread
invariant-loop-thread l = l.end ≡ labels_by l.nodes.count l.config (script_at l.scripts) l.node.0 l.thread
