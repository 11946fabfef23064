use Rattle.std.proofs.Common.{◌≡◌, ℕ, ap, arith}
use Rattle.std.proofs.lemmas.List.FromFn.{map-range_with_len_more}
use Rattle.numa_heaps.specs.declared.nodes.NodeNo.{NodeNo}
use Rattle.numa_heaps.specs.Opening.{home_no, local_by}
use Rattle.numa_heaps.proofs.opening.here_of.Goals as goal

pub loop-node-preserved : goal.loop-node-preserved
loop-node-preserved c =
    let k : ℕ = c.loop-node.node in
    let setting = c.args.setting.now in
    let nodes : ℕ = c.args.nodes.count in
    let at = local_by setting nodes c.args.thread.0 c.args.owners.now c.args.calls.now in
    let home : c.home-home.result ≡ home_no nodes setting.config c.args.thread.0 = ap (λ n. let h : NodeNo = record { 0 = n } in h) c.home-home.ensures in
    let more = map-range_with_len_more at 0 k k (omega arith) in
    rw (c.in_ok-push.ensures.items, c.in_ok-new.ensures, c.new.ensures, c.in_ok-calls.ensures, home, c.loop-node.invariant, more)
