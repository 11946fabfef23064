-- The order of preference is one: by its measures, and of alike keys none else is there.
use Rattle.std.proofs.Common.{ℕ, sym, ap, ◌∙◌}
use Rattle.tc_units.specs.declared.units.Huge.{Huge}
use Rattle.sorted_list.specs.Order.{IsOrder}
use Rattle.sorted_list.specs.Measures.{order_of, by_number, least_first, greatest_first}
use Rattle.huge_index.specs.declared.key.Key.{Key}
use Rattle.huge_index.specs.Order.{comes_before}

pub total : IsOrder Key comes_before
total =
    order_of comes_before _ (least_first (λ k. k.tier) _ _ (least_first (λ k. k.longest) _ _ (greatest_first (λ k. k.allocs) _ _ (by_number (λ k. k.huge.0))))) (λ a b e.
    ap (λ (t : ℕ). let key : Key = record { tier = t; longest = a.longest; allocs = a.allocs; huge = a.huge } in key) e.0
    ∙ ap (λ (t : ℕ). let key : Key = record { tier = b.tier; longest = t; allocs = a.allocs; huge = a.huge } in key) e.1.0
    ∙ ap (λ (t : ℕ). let key : Key = record { tier = b.tier; longest = b.longest; allocs = t; huge = a.huge } in key) (sym e.1.1.0)
    ∙ ap (λ (t : ℕ). let huge : Huge = record { 0 = t } in let key : Key = record { tier = b.tier; longest = b.longest; allocs = b.allocs; huge = huge } in key) e.1.1.1)
