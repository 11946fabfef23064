use Rattle.std.proofs.Common.{◌≡◌, replicate, vec_capacity}
use Rattle.cpu_slab.specs.Slots.{null}
use Rattle.cpu_slab.proofs.slab.empty_slots.Given as goal

-- the slots of the classes so far
abbrev pub invariant-loop-class : goal.invariant-loop-class
invariant-loop-class l = (l.slots.items ≡ replicate l._class (replicate l.most null)) × (vec_capacity l.slots ≡ l.classes)
