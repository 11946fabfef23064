-- A number that moves by one place: it changes places with the next one.
use Rattle.std.proofs.Common.{◌≡◌, ℕ, ◌+◌, ◌<◌, List, length, get_or, set, insert, remove, Some, arith}
use Rattle.std.proofs.lemmas.Grind.{get_or-set_at}
use Rattle.std.proofs.lemmas.List.{ext_get_or}
use Rattle.sorted_list.proofs.Common.{nat_tests, length-set, length-insert, length-remove, get_or-set_other, get_or-insert_below}
use Rattle.sorted_list.proofs.Changes.{item_at, item_above}
use Rattle.sorted_list.proofs.Common.{get_or-remove_above, get_or-remove_below, slice_get, slice_get_within, get_or_from_slice_get}

module _ {X : Type 0} (others : List X) (at : ℕ) (x d : X) (inside : at < length others) where
  -- towards the end, and towards the front
  pub step_on : set (set (insert others at x) at (get_or (insert others at x) (at + 1) d)) (at + 1) x ≡ insert others (at + 1) x
  step_on =
      ext_get_or d _ _ (grind (arith, length-set, length-insert)) (λ i l.
      grind (arith, nat_tests, length-set, length-insert, get_or-set_at, get_or-set_other, get_or-insert_below, item_at, item_above))

  pub step_back : set (set (insert others (at + 1) x) (at + 1) (get_or (insert others (at + 1) x) at d)) at x ≡ insert others at x
  step_back =
      ext_get_or d _ _ (grind (arith, length-set, length-insert)) (λ i l.
      grind (arith, nat_tests, length-set, length-insert, get_or-set_at, get_or-set_other, get_or-insert_below, item_at, item_above))

-- one that stays where it is
pub stays_there : {X : Type 0} (xs : List X) (place : ℕ) (x : X) → slice_get xs place ≡ Some x → xs ≡ insert (remove xs place) place x
stays_there xs place x held =
    let inside : place < length xs = slice_get_within xs place x held in
    let fewer = length-remove xs place inside in
    ext_get_or x _ _ (grind (arith, length-insert)) (λ i l.
    grind (arith, nat_tests, get_or-insert_below, item_at, item_above, get_or-remove_above, get_or-remove_below, get_or_from_slice_get))
