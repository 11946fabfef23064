use Rattle.std.proofs.Common.{◌≡◌, ◌*◌, ◌≤◌}
use Rattle.tc_units.specs.Units.{huge_pages}
use Rattle.heap_rules.specs.Heap.{used_pages, backed_pages}
use Rattle.numa_heaps.specs.Machine.{over_nodes, runs_to}
use Rattle.numa_heaps.proofs.finish.pages_of.Given as goal

abbrev pub invariant-loop-k : goal.invariant-loop-k
invariant-loop-k l =
    record {
      used : l.pages.used ≡ over_nodes used_pages l.setting l.parts l.k;
      runs : l.pages.used ≡ runs_to l.setting l.parts l.k;
      resident : l.pages.resident ≡ over_nodes backed_pages l.setting l.parts l.k;
      covers : l.pages.used ≤ l.pages.resident;
      most : l.pages.resident ≤ huge_pages * (l.k * l.setting.config.huge);
    }
