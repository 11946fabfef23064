-- The order of giving is one.
use Rattle.std.proofs.Common.{◌≡◌, ℕ, Bool, true, false, refl, sym, ap, ◌∙◌, arith}
use Rattle.tc_units.specs.declared.units.Huge.{Huge}
use Rattle.sorted_list.specs.Order.{IsOrder}
use Rattle.sorted_list.specs.Measures.{order_of, by_greatest, least_first}
use Rattle.huge_filler.specs.declared.giver.Giver.{Giver}
use Rattle.huge_filler.specs.Keys.{rank, comes_before}

alike : (a b : Bool) → rank a ≡ rank b → a ≡ b
alike true true e = refl
alike false false e = refl
alike true false e = absurd (omega arith)
alike false true e = absurd (omega arith)

pub total : IsOrder Giver comes_before
total =
    order_of comes_before _ (least_first (λ g. rank g.spent) _ _ (least_first (λ g. g.used) _ _ (by_greatest (λ g. g.huge.0)))) (λ a b e.
    ap (λ (s : Bool). let giver : Giver = record { spent = s; used = a.used; huge = a.huge } in giver) (alike a.spent b.spent e.0)
    ∙ ap (λ (u : ℕ). let giver : Giver = record { spent = b.spent; used = u; huge = a.huge } in giver) e.1.0
    ∙ ap (λ (h : ℕ). let huge : Huge = record { 0 = h } in let giver : Giver = record { spent = b.spent; used = b.used; huge = huge } in giver) (sym e.1.1))
