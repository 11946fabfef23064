use Rattle.std.proofs.Common.{◌≡◌, ◌<◌, length}
use Rattle.size_classes.specs.Rows.{IsTable}
use Rattle.tc_machine.specs.Inputs.{script_at}
use Rattle.numa_heaps.specs.Opening.{labels_by, parts_by}
use Rattle.numa_heaps.proofs.opening.parts_of_nodes.Given as goal

abbrev pub invariant-loop-node : goal.invariant-loop-node
invariant-loop-node l =
    record {
      parts : l.parts.items ≡ parts_by l.setting (λ k. labels_by l.fn.nodes.count l.setting.config (script_at l.scripts) k (length l.scripts)) l.node;
      table : 0 < l.node → IsTable l.setting.table;
    }
