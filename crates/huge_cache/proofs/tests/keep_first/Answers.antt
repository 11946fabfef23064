use Rattle.std.proofs.Common.{◌≡◌, ℕ, ◌+◌, ◌-◌, true, not, List, Bool, get_or, drop, sym, ap, ◌∙◌, arith}
use Rattle.huge_cache.proofs.Common.{get_or-drop, prefix_len_passes, at_number-place}
use Rattle.huge_cache.proofs.tests.keep_first.Goals as goal

pub give-requires-clause-out : goal.give-requires-clause-out
give-requires-clause-out c =
    let row : List Bool = c.take.new.cache.taken in
    let p : ℕ = c.in_ok-first.first.0 - 1 in
    let at : p ≡ p + 0 = omega arith in
    let used : get_or row (p + 0) true ≡ true = sym (get_or-drop p row 0 true) ∙ prefix_len_passes (λ used. used) (drop p row) 0 true (omega (arith, c.requires, c.in_ok-first.ensures.out)) in
    ap not (at_number-place true row c.in_ok-first.first.0 c.in_ok-first.ensures.low ∙ ap (λ (k : ℕ). get_or row k true) at ∙ used)
