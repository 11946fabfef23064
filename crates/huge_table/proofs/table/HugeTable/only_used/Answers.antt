use Rattle.std.proofs.Common.{◌≡◌, ℕ, ◌+◌, ◌-◌, ◌*◌, List, Bool, take, drop, subst, ap, ◌∙◌, arith}
use Rattle.huge_table.proofs.Common.{used_count, nat_tests}
use Rattle.range_bits.specs.Fills.{StaysUsed}
use Rattle.huge_table.proofs.Spares.{spared_means, spared_count, spared_fewer}
use Rattle.huge_table.proofs.table.HugeTable.only_used.Goals as goal

cut : (bs used new : List Bool) (k h : ℕ) → k ≡ h → StaysUsed bs used new (64 * (4 * k)) (64 * (4 * k + 4)) → StaysUsed bs used new (64 * (4 * h)) (64 * (4 * h + 4))
cut bs used new k h e stays = subst (λ (i : ℕ). StaysUsed bs used new (64 * (4 * i)) (64 * (4 * i + 4))) e stays

counted : (row : List Bool) (place h m : ℕ) → place ≡ h → m ≡ used_count (take 256 (drop (256 * place) row)) → m ≡ used_count (take 256 (drop (256 * h) row))
counted row place h m e count = count ∙ ap (λ (k : ℕ). used_count (take 256 (drop (256 * k) row))) e

given : (a b s x y : ℕ) → b ≡ y → a ≡ x → x + s ≡ y → b - a ≡ s
given a b s x y p q r = omega arith

pub overflow_sub-result : goal.overflow_sub-result
overflow_sub-result c = grind (arith, nat_tests, counted, spared_fewer, cut)

pub returns-clause-heap : goal.returns-clause-heap
returns-clause-heap c heap means = grind (arith, nat_tests, spared_means, cut)

pub returns-clause-pages : goal.returns-clause-pages
returns-clause-pages c heap means =
    let t = c.self.inside in
    let h : ℕ = c.args.huge.0 in
    let after = counted c.keep_used.new.self c.from-place.result h c.used_in.result c.from-place.ensures c.used_in.ensures in
    given _ _ _ _ _ (counted t.page_backed c.from-place.result h c.used_in-before.result c.from-place.ensures c.used_in-before.ensures) after
    (grind (arith, spared_count, cut, c.self.invariant, c.self.view_is, c.requires, c.from.ensures, c.keep_used.ensures))
