-- A key that comes, changes or leaves: what is kept, and which keys are there then.
use Rattle.sorted_list.proofs.Common.{common_steps, nat_tests, le-leb, lt-leb, length-set, take_at, length-insert, length-remove, get_or-insert_at, slice_get, slice_get_read, slice_get_within, get_or_from_slice_get, IsPermutation-insert}
use Rattle.sorted_list.proofs.Common.{IsPermutation-remove, keys_of, IsKept, IsOrder, IsInOrder, IsPlaceOf}
use Rattle.std.proofs.Common.{◌≡◌, ℕ, ◌+◌, ◌-◌, ◌<◌, ◌≤◌, Bool, cond, nat_le, List, Some, ◌∷◌, ◌++◌, length, get_or, set, take, drop, insert, remove, Contains, IsPermutation, sym, ap, subst, ◌∙◌, arith}
use Rattle.sorted_list.proofs.Changes.{inserted_in_order, inserted_is_held, held_at, removed_in_order, rekeyed_in_order, rekeyed_is_held, rekeyed_keys}
use Rattle.sorted_list.proofs.Slots.{times_moved, key_came, key_changed, key_left, keys_len}

-- where a number goes
abbrev pub landing : ℕ → ℕ → ℕ
landing place target = cond (nat_le target place) target (target - 1)

pub landing_up : (place target : ℕ) → target ≤ place → landing place target ≡ target
landing_up place target up = ap (λ (b : Bool). cond b target (target - 1)) (le-leb target place up)

pub landing_down : (place target : ℕ) → place < target → landing place target ≡ target - 1
landing_down place target down = ap (λ (b : Bool). cond b target (target - 1)) (lt-leb target place down)

pub landing_within : (place target len : ℕ) → place < len → target ≤ len → landing place target < len
landing_within place target len inside within = grind (arith, nat_tests, landing_up, landing_down)

-- the order that is written back
pub written : (size : ℕ) (old raw new : List ℕ) (place at slot : ℕ) → length raw ≡ size → raw ≡ old → length new ≡ length raw → new ≡ insert (remove raw place) at slot → take size (new ++ drop (length new) old) ≡ insert (remove old place) at slot
written size old raw new place at slot len same kept is = take_at new (drop (length new) old) size (kept ∙ len) ∙ is ∙ ap (λ (xs : List ℕ). insert (remove xs place) at slot) same

module _ {K : Type 0} (before : K → K → Bool) (total : IsOrder K before) (sample : K) (slots : List K) (order : List ℕ) (len : ℕ) (kept : IsKept before sample slots order len) (now : List K) (same : keys_of sample slots order len ≡ now) where
  size : length now ≡ len
  size = sym (ap length same) ∙ keys_len sample slots order len kept.within

  -- an order in which a slot's number moved, with new keys in the slots
  still : (slots' : List K) (place at slot len' : ℕ) → place < length order → at < length order → slot ≡ get_or order place slot → length slots' ≡ length slots → len' ≤ length order → IsInOrder before (keys_of sample slots' (insert (remove order place) at slot) len') → IsKept before sample slots' (insert (remove order place) at slot) len'
  still slots' place at slot len' inside near is long within sorted = grind (arith, nat_tests, common_steps, length-remove, length-insert, times_moved, size)

  pub came : (key : K) (place slot : ℕ) (order' : List ℕ) → IsInOrder before now → IsPlaceOf before now key place → len < length order → slot ≡ get_or order len slot → order' ≡ insert (remove order len) (landing len place) slot → IsKept before sample (set slots slot key) order' (len + 1) × IsPermutation (key ∷ now) (keys_of sample (set slots slot key) order' (len + 1)) × Contains (keys_of sample (set slots slot key) order' (len + 1)) key
  came key place slot order' sorted at room is e =
      let near : place ≤ len = omega (arith, at.within, size) in
      let there : order' ≡ insert (remove order len) place slot = e ∙ ap (λ (i : ℕ). insert (remove order len) i slot) (landing_up len place near) in
      let keys : keys_of sample (set slots slot key) (insert (remove order len) place slot) (len + 1) ≡ insert now place key =
      key_came sample key slots order len slot kept.once place room (sym is) near ∙ ap (λ (ks : List K). insert ks place key) same in
      let P : List ℕ → Type 0 = λ o. IsKept before sample (set slots slot key) o (len + 1) × IsPermutation (key ∷ now) (keys_of sample (set slots slot key) o (len + 1)) × Contains (keys_of sample (set slots slot key) o (len + 1)) key in
      let ordered : IsInOrder before (insert now place key) = inserted_in_order before total now key place sorted at in
      let Q : List K → Type 0 = λ ks. IsInOrder before ks × IsPermutation (key ∷ now) ks × Contains ks key in
      let q = subst Q (sym keys) (ordered, IsPermutation-insert now place key, inserted_is_held before total now key place at.within) in
      subst P (sym there) (still (set slots slot key) len place slot (len + 1) room (omega arith) is (length-set slots slot key) (omega arith) q.0, q.1, q.2)

  pub changed : (from to : K) (place target slot : ℕ) (order' : List ℕ) → IsInOrder before now → slice_get now place ≡ Some from → IsPlaceOf before now to target → slot ≡ get_or order place slot → order' ≡ insert (remove order place) (landing place target) slot → IsKept before sample (set slots slot to) order' len × IsPermutation (to ∷ now) (from ∷ keys_of sample (set slots slot to) order' len) × Contains (keys_of sample (set slots slot to) order' len) to × (slice_get (keys_of sample (set slots slot to) order' len) (landing place target) ≡ Some to)
  changed from to place target slot order' sorted there goal is e =
      let held : place < length now = slice_get_within now place from there in
      let inside : place < len = omega (arith, size) in
      let near = landing_within place target len inside (omega (arith, goal.within, size)) in
      let land : ℕ = landing place target in
      let keys : keys_of sample (set slots slot to) (insert (remove order place) land slot) len ≡ insert (remove now place) land to =
      key_changed sample to slots order len slot kept.once place land kept.within inside near (sym is) ∙ ap (λ (ks : List K). insert (remove ks place) land to) same in
      let P : List ℕ → Type 0 = λ o. IsKept before sample (set slots slot to) o len × IsPermutation (to ∷ now) (from ∷ keys_of sample (set slots slot to) o len) × Contains (keys_of sample (set slots slot to) o len) to × (slice_get (keys_of sample (set slots slot to) o len) land ≡ Some to) in
      let Q : List K → Type 0 = λ ks. IsInOrder before ks × IsPermutation (to ∷ now) (from ∷ ks) × Contains ks to × (slice_get ks land ≡ Some to) in
      let fewer : length (remove now place) + 1 ≡ length now = length-remove now place held in
      let placed : slice_get (insert (remove now place) land to) land ≡ Some to =
      slice_get_read (insert (remove now place) land to) len land to (omega (arith, fewer, size, near, length-insert (remove now place) land to)) near (sym (get_or-insert_at (remove now place) land to to (omega (arith, fewer, size, near)))) in
      let q = subst Q (sym keys) (rekeyed_in_order before total now to place target sorted held goal, rekeyed_keys now from to place land held (get_or_from_slice_get now place from from there), rekeyed_is_held before total now to place target held goal, placed) in
      subst P (sym e) (still (set slots slot to) place land slot len (omega (arith, kept.within)) (omega (arith, kept.within)) is (length-set slots slot to) kept.within q.0, q.1, q.2, q.3)

  pub left : (key : K) (place slot : ℕ) (order' : List ℕ) → IsInOrder before now → IsPlaceOf before now key place → Contains now key → slot ≡ get_or order place slot → order' ≡ insert (remove order place) (landing place len) slot → IsKept before sample slots order' (len - 1) × IsPermutation now (key ∷ keys_of sample slots order' (len - 1))
  left key place slot order' sorted at held is e =
      let here = held_at before total now key place sorted at held in
      let inside : place < len = omega (arith, here.0, size) in
      let there : order' ≡ insert (remove order place) (len - 1) slot = e ∙ ap (λ (i : ℕ). insert (remove order place) i slot) (landing_down place len inside) in
      let keys : keys_of sample slots (insert (remove order place) (len - 1) slot) (len - 1) ≡ remove now place =
      key_left sample key slots order len slot kept.once place kept.within inside ∙ ap (λ (ks : List K). remove ks place) same in
      let P : List ℕ → Type 0 = λ o. IsKept before sample slots o (len - 1) × IsPermutation now (key ∷ keys_of sample slots o (len - 1)) in
      let Q : List K → Type 0 = λ ks. IsInOrder before ks × IsPermutation now (key ∷ ks) in
      let q = subst Q (sym keys) (removed_in_order before total now place sorted here.0, IsPermutation-remove now place key here.0 (sym here.1)) in
      subst P (sym there) (still slots place (len - 1) slot (len - 1) (omega (arith, kept.within)) (omega (arith, kept.within)) is (ap (λ (n : ℕ). n) (let r : length slots ≡ length slots = omega arith in r)) (omega (arith, kept.within)) q.0, q.1)
