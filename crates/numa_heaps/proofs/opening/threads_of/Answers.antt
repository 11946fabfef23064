use Rattle.std.proofs.Common.{ℕ, arith}
use Rattle.std.proofs.lemmas.List.FromFn.{map-range_with_len_more}
use Rattle.tc_machine.specs.Inputs.{script_at}
use Rattle.node_rules.specs.Beside.{Beside}
use Rattle.node_rules.specs.Numa.{NodeLocal}
use Rattle.numa_heaps.specs.Opening.{thread_by}
use Rattle.numa_heaps.proofs.Owners.{script_there}
use Rattle.numa_heaps.proofs.opening.threads_of.Goals as goal

pub loop-thread-preserved : goal.loop-thread-preserved
loop-thread-preserved c =
    let t : ℕ = c.loop-thread.thread in
    let script = script_at c.args.scripts.now in
    let at : ℕ → Beside NodeLocal = λ u. thread_by c.args.setting.now c.args.nodes.count u c.args.owners.now (script u) in
    let read = script_there c.args.scripts.now t c.index-scripts-thread.result c.loop-thread-test.true in
    let more = map-range_with_len_more at 0 t t (omega arith) in
    rw (c.in_ok-push.ensures.items, c.in_ok-thread_of.ensures, read, c.loop-thread.invariant, more)
