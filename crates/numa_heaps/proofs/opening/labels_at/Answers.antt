use Rattle.std.proofs.Common.{◌≡◌, ℕ, max, rules}
use Rattle.tc_machine.specs.Inputs.{script_at}
use Rattle.node_rules.specs.Nodes.{home}
use Rattle.numa_heaps.specs.Opening.{end_at}
use Rattle.numa_heaps.proofs.Owners.{script_there}
use Rattle.numa_heaps.proofs.Ranges.{fold_more}
use Rattle.numa_heaps.proofs.opening.labels_at.Goals as goal

pub loop-thread-preserved : goal.loop-thread-preserved
loop-thread-preserved c =
    let t : ℕ = c.loop-thread.thread in
    let here : ℕ → ℕ = home c.args.nodes.count c.args.config.now in
    let read = script_there c.args.scripts.now t c.index-scripts-thread.result c.loop-thread-test.true in
    let most : c.max-end.result ≡ max c.loop-thread.end c.end_at.result = search rules in
    let more = fold_more (λ m u. max m (end_at (here u) c.args.node.0 (script_at c.args.scripts.now u))) 0 t in
    rw (most, c.end_at.ensures, c.home-home.ensures, read, c.loop-thread.invariant, more)
