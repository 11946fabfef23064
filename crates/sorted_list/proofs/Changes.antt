-- Sorted keys with a key more, fewer or changed.
use Rattle.sorted_list.proofs.Common.{nat_tests, length-insert, get_or-insert_below, get_or-insert_at}
use Rattle.sorted_list.proofs.Common.{get_or-insert_above, length-remove, get_or-remove_below, get_or-remove_above, IsPermutation-insert, IsPermutation-remove}
use Rattle.sorted_list.proofs.Common.{IsPermutation-cons, IsPermutation-trans, IsPermutation-middle, IsPermutation-sym, IsOrder, IsInOrder, IsPlaceOf}
use Rattle.std.proofs.Common.{◌≡◌, ℕ, ◌+◌, ◌-◌, ◌<◌, ◌≤◌, Bool, false, cond, nat_le, List, [], ◌∷◌, length, get_or, insert, remove, Contains, IsPermutation, sym, ap, ◌∙◌, arith}

-- what stands in the list with a key more
item_below : {K : Type 0} (keys : List K) (key : K) (place i : ℕ) (d : K) → i < place → place ≤ length keys → get_or (insert keys place key) i d ≡ get_or keys i d
item_below keys key place i d l within = get_or-insert_below keys place key d i l within

pub item_at : {K : Type 0} (keys : List K) (key : K) (place i : ℕ) (d : K) → place ≡ i → place ≤ length keys → get_or (insert keys place key) i d ≡ key
item_at keys key place i d e within = ap (λ j. get_or (insert keys place key) j d) (sym e) ∙ get_or-insert_at keys place key d within

pub item_above : {K : Type 0} (keys : List K) (key : K) (place i : ℕ) (d : K) → place < i → place ≤ length keys → get_or (insert keys place key) i d ≡ get_or keys (i - 1) d
item_above keys key place i d l within = grind (arith, nat_tests, get_or-insert_above)

module _ {K : Type 0} (before : K → K → Bool) (total : IsOrder K before) where
  -- no key comes before itself
  pub not_itself : (a : K) → before a a ≡ false
  not_itself a = grind (arith, nat_tests)

  both : {a b x y : K} → a ≡ x → b ≡ y → before x y ≡ false → before a b ≡ false
  both {a} {b} {x} {y} e h k = ap (λ (t : K). before t b) e ∙ ap (λ (t : K). before x t) h ∙ k

  -- an insert at the place keeps the order
  pub inserted_in_order : (keys : List K) (key : K) (place : ℕ) → IsInOrder before keys → IsPlaceOf before keys key place → IsInOrder before (insert keys place key)
  inserted_in_order keys key place order at i j d less inside = grind (arith, nat_tests, item_below, insert, length-insert, item_above, item_at, both)

  -- and the key is there then
  pub inserted_is_held : (keys : List K) (key : K) (place : ℕ) → place ≤ length keys → Contains (insert keys place key) key
  inserted_is_held keys key place within = (place, omega (arith, length-insert keys place key within), get_or-insert_at keys place key key within)

  -- the key that is held stands at its place
  pub held_at : (keys : List K) (key : K) (place : ℕ) → IsInOrder before keys → IsPlaceOf before keys key place → Contains keys key → (place < length keys) × (get_or keys place key ≡ key)
  held_at keys key place order at held = grind (arith, nat_tests, not_itself)

  -- without a key the others keep their order
  pub removed_in_order : (keys : List K) (place : ℕ) → IsInOrder before keys → place < length keys → IsInOrder before (remove keys place)
  removed_in_order keys place order inside i j d less last = grind (arith, nat_tests, length-remove, get_or-remove_above, both, get_or-remove_below)

  module _ (keys : List K) (place : ℕ) (inside : place < length keys) where
    stays : (i : ℕ) (d to : K) (b : Bool) → i < place → before (get_or keys i d) to ≡ b → before (get_or (remove keys place) i d) to ≡ b
    stays i d to b l h = ap (λ (k : K). before k to) (get_or-remove_below keys place d i l inside) ∙ h

    moves : (i : ℕ) (d to : K) (b : Bool) → place ≤ i → before (get_or keys (i + 1) d) to ≡ b → before (get_or (remove keys place) i d) to ≡ b
    moves i d to b l h = ap (λ (k : K). before k to) (get_or-remove_above keys place d i l inside) ∙ h

    -- the place of a key among the others
    place_up : (to : K) (target : ℕ) → IsPlaceOf before keys to target → target ≤ place → IsPlaceOf before (remove keys place) to target
    place_up to target at order = grind (arith, nat_tests, moves, stays, length-remove)

    place_down : (to : K) (target : ℕ) → IsPlaceOf before keys to target → place < target → IsPlaceOf before (remove keys place) to (target - 1)
    place_down to target at order = grind (arith, nat_tests, moves, length-remove, stays)

    pub place_among : (to : K) (target : ℕ) → IsPlaceOf before keys to target → IsPlaceOf before (remove keys place) to (cond (nat_le target place) target (target - 1))
    place_among to target at = grind (arith, nat_tests, place_down to target, place_up to target)

  -- Another key in the place of one: in order, and no other key comes or goes.
  pub rekeyed_in_order : (keys : List K) (to : K) (place target : ℕ) → IsInOrder before keys → place < length keys → IsPlaceOf before keys to target → IsInOrder before (insert (remove keys place) (cond (nat_le target place) target (target - 1)) to)
  rekeyed_in_order keys to place target order inside goal =
      inserted_in_order (remove keys place) to (cond (nat_le target place) target (target - 1)) (removed_in_order keys place order inside) (place_among keys place inside to target goal)

  pub rekeyed_is_held : (keys : List K) (to : K) (place target : ℕ) → place < length keys → IsPlaceOf before keys to target → Contains (insert (remove keys place) (cond (nat_le target place) target (target - 1)) to) to
  rekeyed_is_held keys to place target inside goal = inserted_is_held (remove keys place) to _ (place_among keys place inside to target goal).within

-- one key for another one
pub rekeyed_keys : {K : Type 0} (keys : List K) (from to : K) (place slot : ℕ) → place < length keys → get_or keys place from ≡ from → IsPermutation (to ∷ keys) (from ∷ insert (remove keys place) slot to)
rekeyed_keys {K} keys from to place slot inside here =
    let others : List K = remove keys place in
    IsPermutation-trans (to ∷ keys) (to ∷ from ∷ others) (from ∷ insert others slot to)
    (IsPermutation-cons to keys (from ∷ others) (IsPermutation-remove keys place from inside (sym here)))
    (IsPermutation-trans (to ∷ from ∷ others) (from ∷ to ∷ others) (from ∷ insert others slot to)
    (IsPermutation-sym (from ∷ to ∷ others) (to ∷ from ∷ others) (IsPermutation-middle (from ∷ []) to others))
    (IsPermutation-cons from (to ∷ others) (insert others slot to) (IsPermutation-insert others slot to)))
