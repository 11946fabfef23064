-- A node's heap among the parts, and how many pages nodes have.
use Rattle.std.proofs.Common.{◌≡◌, ℕ, ◌+◌, ◌*◌, ◌<◌, ◌≤◌, List, Some, sym, ap, arith}
use Rattle.std.specs.Prelude.{slice_get}
use Rattle.std.proofs.lemmas.Option.{get_or_from_slice_get}
use Rattle.std.proofs.lemmas.Nat.{mul-le}
use Rattle.tc_units.specs.Units.{huge_pages}
use Rattle.heap_rules.specs.Heap.{Heap, opened}
use Rattle.alloc_rules.specs.Machine.{heap_config}
use Rattle.alloc_rules.specs.declared.part.Part.TheVariants as part
use Rattle.tc_machine.specs.Finish.{heap_by}
use Rattle.call_steps.specs.declared.setting.Setting.{Setting}
use Rattle.node_rules.specs.Numa.{NodePart}
use Rattle.numa_heaps.specs.Machine.{heap_at, heap_place}

-- the heap that is there is the node's
pub heap_is : (setting : Setting) (parts : List NodePart) (k : ℕ) (heap : Heap)
    → slice_get parts (heap_place setting k) ≡ Some (part.Heap heap) → heap ≡ heap_at setting parts k
heap_is setting parts k heap there =
    let first : Heap = opened (heap_config setting.config) in
    sym (ap (heap_by first) (get_or_from_slice_get parts (heap_place setting k) (part.Heap heap) (part.Heap first) there))

-- the pages of few nodes are few
pub few_pages : (k huge pages more : ℕ) → k < 8 → huge ≤ 4096 → pages ≤ huge_pages * (k * huge) → more ≤ huge_pages * huge → pages + more ≤ huge_pages * 36864
few_pages k huge pages more low few is add =
    let rows : k * huge ≤ 32768 = mul-le k huge 8 4096 (omega (arith, low)) few in
    omega (arith, rows, is, add, few)

pub next_pages : (k huge pages more : ℕ) → pages ≤ huge_pages * (k * huge) → more ≤ huge_pages * huge → pages + more ≤ huge_pages * ((k + 1) * huge)
next_pages k huge pages more is add = let rows : (k + 1) * huge ≡ k * huge + huge = grind arith in omega (arith, rows, is, add)
