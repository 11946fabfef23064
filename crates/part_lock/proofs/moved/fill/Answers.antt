use Rattle.std.proofs.Common.{◌≡◌, [], All, sym, subst, arith}
use Rattle.std.proofs.lemmas.List.Elements.{All-push}
use Rattle.part_lock.specs.declared.view.Stall.{Stall}
use Rattle.part_lock.proofs.Carried.{fill_step}
use Rattle.part_lock.proofs.moved.fill.Goals as goal

pub loop-part-preserved : goal.loop-part-preserved
loop-part-preserved g c = let v = c.loop-part.invariant in record {
  room = omega (arith, v.room, c.in-Some.ensures.len, c.push_reserved.ensures.len, c.push_reserved.ensures.capacity);
  so_far = fill_step _ _ _ _ _ _ c.push_reserved.ensures.items c.in-Some.ensures.items v.so_far;
  bare = subst (All (λ (x : Stall _). x.entries.items ≡ [])) (sym c.push_reserved.ensures.items) (All-push (λ (x : Stall _). x.entries.items ≡ []) _ _ v.bare c.new.ensures.items);
}
