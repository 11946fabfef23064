use Rattle.std.proofs.Common.{◌≡◌, ◌<◌, ◌≤◌, ℕ, false, refl, length, get_or, sym, ◌∙◌, ap, arith}
use Rattle.std.specs.Prelude.{Contains}
use Rattle.std.specs.Ordering.{nat_cmp, is_gt}
use Rattle.std.specs.Option.{is_some}
use Rattle.std.proofs.lemmas.Cmp.{nat_cmp_total}
use Rattle.std.proofs.lemmas.Option.{none-some}
use Rattle.std.proofs.lemmas.Map.Keys.{le_from_not_gt, ge_from_not_lt}
use Rattle.std.proofs.lemmas.Map.Lookups.{exact_unsigned}
use Rattle.std.proofs.lemmas.Map.Views.{btree_map_get_iff}
use Rattle.std.proofs.lemmas.List.Elements.{Contains-get_or}
use Rattle.central_free.proofs.central.last_begun.Goals as goal

not_gt : (a b : ℕ) → a ≤ b → is_gt (nat_cmp a b) ≡ false
not_gt a b le = grind (arith)

pub unreachable-requires : goal.unreachable-requires
unreachable-requires c =
    let m = c.args.order.now in
    let e = c.requires.1 in
    let there : Contains m.entries (e.0, e.1) = (c.requires.0, c.requires.2, c.requires.3) in
    let has = (btree_map_get_iff nat_cmp_total exact_unsigned m c.range.ensures.ordered e.0 e.1).1 there in
    none-some e.1 (sym ((c.range.ensures.in_range tt).5 c.in-None.ensures.steps.0 e.0 (tt, not_gt e.0 c.args.address c.requires.4)) ∙ has)

pub returns : goal.returns
returns c =
    let m = c.args.order.now in
    let key = c.in-Some.field-0-0.now in
    let slot = c.in-Some.slot.now in
    let inside = (c.range.ensures.in_range tt).3 _ _ c.in-Some.ensures.steps in
    let greatest = (c.range.ensures.in_range tt).4 _ _ c.in-Some.ensures.steps in
    let it : Contains m.entries (key, slot) = (btree_map_get_iff nat_cmp_total exact_unsigned m c.range.ensures.ordered key slot).0 inside.1 in
    let last : (i : ℕ) (d : ℕ × ℕ) → i < length m.entries → (get_or m.entries i d).0 ≤ c.args.address → (get_or m.entries i d).0 ≤ key = λ i d less le.
    let e = get_or m.entries i d in
    let has = (btree_map_get_iff nat_cmp_total exact_unsigned m c.range.ensures.ordered e.0 e.1).1 (Contains-get_or m.entries i d less) in
    ge_from_not_lt key e.0 (greatest e.0 (tt, not_gt e.0 c.args.address le) (ap is_some has)) in
    (it.0, (key, slot), it.1, it.2, (refl, le_from_not_gt key c.args.address inside.0.1, last))
