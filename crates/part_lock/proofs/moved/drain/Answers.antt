use Rattle.std.proofs.Common.{◌≡◌, ◌<◌, ℕ, ◌∙◌, arith, false, length}
use Rattle.std.proofs.lemmas.List.{get_or-set_other}
use Rattle.std.proofs.lemmas.Grind.{get_or-set_at}
use Rattle.std.specs.Slots.{slots_filled, slots_len, slots_counts}
use mathlib.Core.Logic.{dite}
use native.Mathlib.Decide.{ℕ_discrete}
use Rattle.part_lock.specs.declared.view.Stall.{Stall}
use Rattle.part_lock.proofs.Carried.{carried}
use Rattle.part_lock.proofs.moved.drain.Goals as goal

pub loop-i-preserved : goal.loop-i-preserved
loop-i-preserved g c =
    let t = c.take-journal.ensures.others in let v = c.loop-i.invariant in let i : ℕ = c.loop-i.i in
    let p = c.push_reserved.ensures.capacity in let q = c.push_reserved-in-loop-i.ensures.capacity in let count : slots_len c.take-journal.new.self.slots ≡ slots_len c.loop-i.closed.slots = t.2 in
    let filled = slots_filled c.loop-i.closed.slots in
    let long : slots_len c.loop-i.closed.slots ≡ length filled = (slots_counts c.loop-i.closed.slots).1 in
    let below : i < slots_len c.loop-i.closed.slots = omega (arith, c.loop-i-test.true, c.slot_count.ensures) in record {
      full = λ k low less. rw t.1 (get_or-set_other filled i k false false (λ e. omega arith) ∙ v.full k (omega arith) (omega arith));
      taken = λ k low. rw t.1 (dite (ℕ_discrete k i) (λ e. get_or-set_at filled i k false false e (omega arith)) (λ ne. get_or-set_other filled i k false false ne ∙ v.taken k (omega arith)));
      same = t.0 ∙ v.same;
      count = t.2 ∙ v.count;
      room = omega (arith, v.room);
      room' = omega (arith, v.room');
      so_far = carried (λ (x : Stall _). x.part) _ _ _ _ _ i c.push_reserved.ensures.items v.so_far c.take-journal.ensures.value t.0;
      so_far' = carried (λ (x : Stall _). x.entries) _ _ _ _ _ i c.push_reserved-in-loop-i.ensures.items v.so_far' c.take-journal.ensures.value t.0;
    }
