use Rattle.std.proofs.Common.{◌≡◌, ◌+◌, ◌-◌, ◌++◌, reverse, take}
use Rattle.cpu_slab.specs.Slots.{row_at}
use Rattle.cpu_drain.proofs.drain.copy_out.Given as goal

-- what is left of the class, top first, comes after the objects so far
abbrev pub invariant-loop-k : goal.invariant-loop-k
invariant-loop-k l = record {
  items : l.out.items ++ reverse (take (l.top - l.k) (row_at l.slab l.class.0).slots) ≡ l.initial.out.items ++ reverse (take l.top (row_at l.slab l.class.0).slots);
  spare : l.out.spare + l.k ≡ l.initial.out.spare;
}
