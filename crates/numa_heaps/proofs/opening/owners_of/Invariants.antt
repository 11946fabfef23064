use Rattle.std.proofs.Common.{◌≡◌}
use Rattle.tc_machine.specs.Inputs.{script_at}
use Rattle.numa_heaps.specs.Opening.{owners_of}
use Rattle.numa_heaps.proofs.opening.owners_of.Given as goal

abbrev pub invariant-loop-thread : goal.invariant-loop-thread
invariant-loop-thread l = l.owners.items ≡ owners_of l.nodes.count l.config (script_at l.scripts) l.labels l.thread
