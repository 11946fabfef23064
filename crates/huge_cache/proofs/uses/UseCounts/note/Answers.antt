use Rattle.std.proofs.Common.{◌≡◌, ℕ, nat_le, List, [], ◌∷◌, ◌++◌, filter, subst, sym, ap, ◌∙◌, arith}
use Rattle.huge_cache.proofs.Common.{nat_tests, fold_push, with_newest, greatest_of, IsFalling}
use Rattle.huge_cache.proofs.Greatest.{greatest_fall, length-greatest}
use Rattle.huge_cache.proofs.uses.UseCounts.note.Goals as goal

pub drop_below-requires : goal.drop_below-requires
drop_below-requires c = subst (λ (l : List ℕ). IsFalling l) (sym c.make_room.ensures.greatest) (greatest_fall c.make_room.new.counts.items)

pub push_back_reserved-requires-2 : goal.push_back_reserved-requires-2
push_back_reserved-requires-2 c = grind (arith, nat_tests, length-greatest)

pub invariant_of-self : goal.invariant_of-self
invariant_of-self c =
    let counts : List ℕ = c.make_room.new.counts.items in
    let greatest : c.push_back_reserved-2.new.self.items ≡ greatest_of c.push_back_reserved.new.self.items =
    c.push_back_reserved-2.ensures.items
    ∙ ap (λ (l : List ℕ). l ++ c.args.count ∷ []) (c.drop_below.ensures.kept ∙ ap (filter (λ x. nat_le c.args.count x)) c.make_room.ensures.greatest)
    ∙ sym (fold_push with_newest [] counts c.args.count)
    ∙ ap greatest_of (sym c.push_back_reserved.ensures.items) in (
      omega (arith, c.push_back_reserved.ensures.len, c.make_room.ensures.len),
      omega (arith, c.push_back_reserved.ensures.capacity, c.make_room.ensures.room, c.self.invariant.1),
      omega (arith, c.push_back_reserved-2.ensures.capacity, c.drop_below.ensures.room, c.make_room.ensures.greatest_room, c.self.invariant.2),
      greatest,
    )
