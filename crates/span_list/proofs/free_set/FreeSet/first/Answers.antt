use Rattle.std.proofs.Common.{◌≡◌, ◌+◌, ◌*◌, ◌^◌, ◌<◌, List, ℕ, position, sym, ◌∙◌, ap, subst, get_or, arith, rules}
use Rattle.std.specs.Int.{w64, trailing_ones}
use Rattle.span_list.proofs.BitFacts.{position-clear_bits, position-clear_bits_none, is_clear-full, IsFirstClear, first_clear}
use Rattle.span_list.proofs.free_set.FreeSet.first.Goals as goal

pub returns-then-index-self : goal.returns-then-index-self
returns-then-index-self c =
    let words : List ℕ = c.self.inside.taken.items in
    let word : ℕ = get_or c.deref-word-items.result.now c.loop-place.place 0 in
    let read : word ≡ get_or words c.loop-place.place 0 = ap (λ ws. get_or ws c.loop-place.place 0) c.deref-word-items.ensures.value in
    let fits : word < 2 ^ 64 = search rules in
    let first : IsFirstClear words (64 * c.loop-place.place + trailing_ones w64 word) = first_clear words c.loop-place.place word read fits c.if-word.true c.loop-place.invariant in
    let at : IsFirstClear words (64 * c.loop-place.place + c.trailing_ones.result) = subst (λ (t : ℕ). IsFirstClear words (64 * c.loop-place.place + t)) (sym c.trailing_ones.ensures) first in
    sym (ap (λ xs. position (λ b. b) xs) (sym c.self.view_is) ∙ position-clear_bits words c.self.inside.len (64 * c.loop-place.place + c.trailing_ones.result) c.if-index-self.true at.here at.before)

pub returns-else-index-self : goal.returns-else-index-self
returns-else-index-self c =
    let words : List ℕ = c.self.inside.taken.items in
    grind (arith, first_clear words c.loop-place.place, position-clear_bits_none words c.self.inside.len)

pub returns : goal.returns
returns c = grind (arith, position-clear_bits_none, is_clear-full)
