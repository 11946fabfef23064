use Rattle.std.proofs.Common.{◌≡◌, ℕ, List, length, get_or, ap, ◌∙◌, arith}
use Rattle.numa_heaps.specs.declared.nodes.NodeNo.{NodeNo}
use Rattle.numa_heaps.specs.Opening.{home_no, owners_behind, owners_of}
use Rattle.tc_machine.specs.Inputs.{script_at}
use Rattle.numa_heaps.proofs.Owners.{length_behind, written_back, script_there}
use Rattle.numa_heaps.proofs.Ranges.{fold_more}
use Rattle.numa_heaps.proofs.opening.owners_of.Goals as goal

pub loop-thread-preserved : goal.loop-thread-preserved
loop-thread-preserved c =
    let t : ℕ = c.loop-thread.thread in
    let os : List NodeNo = c.loop-thread.owners.items in
    let here : NodeNo = c.home-here.result in
    let script = script_at c.args.scripts.now in
    let nodes : ℕ = c.args.nodes.count in
    let config = c.args.config.now in
    let home : here ≡ home_no nodes config t = ap (λ n. let h : NodeNo = record { 0 = n } in h) c.home-here.ensures in
    let made : c.note_labels.new.owners ≡ owners_behind here os (get_or c.args.scripts.now t c.index-scripts-thread.result).calls = rw c.deref_mut.ensures.value at c.note_labels.ensures in
    let many : length c.note_labels.new.owners ≡ length os = rw made (length_behind here os (get_or c.args.scripts.now t c.index-scripts-thread.result).calls) in
    let read = script_there c.args.scripts.now t c.index-scripts-thread.result c.loop-thread-test.true in
    let more = fold_more (λ xs u. owners_behind (home_no nodes config u) xs (script u)) (owners_of nodes config script c.args.labels 0) t in
    written_back os c.note_labels.new.owners c.loop-thread.owners.len many (omega (arith, c.loop-thread.owners.ok))
    ∙ rw (made, home, read, c.loop-thread.invariant, more)
