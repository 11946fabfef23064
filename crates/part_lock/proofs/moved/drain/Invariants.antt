use Rattle.std.proofs.Common.{◌≡◌, ℕ, ◌-◌, ◌<◌, ◌≤◌, false, get_or, take, map, vec_capacity}
use Rattle.std.specs.Slots.{slots_filled, slots_len, slots_items}
use Rattle.std.specs.Slots.Ownership.{Filled}
use Rattle.part_lock.specs.declared.view.Stall.{Stall}
use Rattle.part_lock.proofs.moved.drain.Given as goal

abbrev pub invariant-loop-i : goal.invariant-loop-i
invariant-loop-i g l = record {
  full : Filled (slots_filled l.closed.slots) l.i (slots_len l.closed.slots);
  taken : (k : ℕ) → k < l.i → get_or (slots_filled l.closed.slots) k false ≡ false;
  same : slots_items l.closed.slots ≡ slots_items l.initial.closed.slots;
  count : slots_len l.closed.slots ≡ slots_len l.initial.closed.slots;
  room : slots_len l.closed.slots ≤ vec_capacity l.parts;
  room' : slots_len l.closed.slots ≤ vec_capacity l.entries;
  so_far : l.parts.items ≡ map (λ (x : Stall _). x.part) (take l.i (slots_items l.closed.slots));
  so_far' : l.entries.items ≡ map (λ (x : Stall _). x.entries) (take l.i (slots_items l.closed.slots));
}

abbrev pub decreases-loop-i : goal.decreases-loop-i
decreases-loop-i g l = slots_len l.closed.slots - l.i
