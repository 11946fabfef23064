use Rattle.std.proofs.Common.{◌≡◌, map}
use Rattle.std.specs.List.{range_with_len}
use Rattle.tc_machine.specs.Inputs.{script_at}
use Rattle.numa_heaps.specs.Opening.{thread_by}
use Rattle.numa_heaps.proofs.opening.threads_of.Given as goal

abbrev pub invariant-loop-thread : goal.invariant-loop-thread
invariant-loop-thread l = l.locals.items ≡ map (λ t. thread_by l.setting l.nodes.count t l.owners (script_at l.scripts t)) (range_with_len 0 l.thread)
