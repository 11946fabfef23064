use Rattle.std.proofs.Common.{ℕ, [], length, arith}
use Rattle.tc_model.specs.declared.config.Head.TheVariants.{Cpus}
use Rattle.tc_machine.specs.Inputs.{script_at}
use Rattle.numa_heaps.specs.Opening.{labels_by, parts_with}
use Rattle.numa_heaps.proofs.Ranges.{fold_more}
use Rattle.numa_heaps.proofs.opening.parts_of_nodes.Goals as goal

pub labels_at-labels-requires-clause-cpus : goal.labels_at-labels-requires-clause-cpus
labels_at-labels-requires-clause-cpus c = omega (arith, (c.requires.config Cpus).0)

pub loop-node-preserved : goal.loop-node-preserved
loop-node-preserved c =
    let setting = c.args.setting.now in
    let labels : ℕ → ℕ = λ j. labels_by c.args.nodes.count setting.config (script_at c.args.scripts.now) j (length c.args.scripts.now) in
    let more = fold_more (parts_with setting labels) [] c.loop-node.node in
    record {
      parts = rw (c.in_ok-append.ensures.items, c.in_ok-more.ensures.parts, c.labels_at-labels.ensures, c.loop-node.invariant.parts, more);
      table = λ some. c.in_ok-more.ensures.table;
    }
