-- The order of regions is one.
use Rattle.std.proofs.Common.{ℕ, ap, ◌∙◌}
use Rattle.sorted_list.specs.Order.{IsOrder}
use Rattle.sorted_list.specs.Measures.{order_of, by_number, least_first}
use Rattle.huge_region.specs.declared.key.RegionKey.{RegionKey}
use Rattle.huge_region.specs.Order.{comes_before}

pub total : IsOrder RegionKey comes_before
total =
    order_of comes_before _ (least_first (λ r. r.longest) _ _ (by_number (λ r. r.first.0))) (λ a b e.
    ap (λ (l : ℕ). let r : RegionKey = record { longest = l; first = a.first } in r) e.0
    ∙ ap (λ (h : ℕ). let r : RegionKey = record { longest = b.longest; first = record { 0 = h } } in r) e.1)
