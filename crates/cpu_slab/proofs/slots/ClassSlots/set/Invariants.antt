use Rattle.std.proofs.Common.{◌≡◌, ◌+◌, ◌-◌, vec_len, vec_capacity}
use Rattle.cpu_slab.specs.Layout.{all_slots}
use Rattle.cpu_slab.proofs.slots.ClassSlots.set.Given as goal

-- the slots stay as they were
abbrev pub invariant-loop-self : goal.invariant-loop-self
invariant-loop-self l =
    let now = l.self-inside.written in
    let before = l.initial.self-inside.written in
    (vec_capacity now ≡ vec_capacity before) × (all_slots now.items (vec_capacity now) ≡ all_slots before.items (vec_capacity before))

-- slots up to i that weren't written
abbrev pub decreases-loop-self : goal.decreases-loop-self
decreases-loop-self l = l.i + 1 - vec_len l.self-inside.written
