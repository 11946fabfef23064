-- The order of free ranges is one.
use Rattle.std.proofs.Common.{ℕ, ap, ◌∙◌}
use Rattle.sorted_list.specs.Order.{IsOrder}
use Rattle.sorted_list.specs.Measures.{order_of, by_number, least_first}
use Rattle.free_ranges.specs.declared.range.FreeRange.{FreeRange}
use Rattle.free_ranges.specs.Ranges.{comes_before}

pub total : IsOrder FreeRange comes_before
total =
    order_of comes_before _ (least_first (λ r. r.len) _ _ (by_number (λ r. r.start))) (λ a b e.
    ap (λ (l : ℕ). let r : FreeRange = record { len = l; start = a.start } in r) e.0
    ∙ ap (λ (s : ℕ). let r : FreeRange = record { len = b.len; start = s } in r) e.1)
