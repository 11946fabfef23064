use Rattle.std.proofs.Common.{◌≡◌}
use Rattle.numa_heaps.specs.Machine.{rows_to}
use Rattle.numa_heaps.proofs.finish.rows_of_nodes.Given as goal

abbrev pub invariant-loop-k : goal.invariant-loop-k
invariant-loop-k l = l.rows.items ≡ rows_to l.setting l.parts l.k
