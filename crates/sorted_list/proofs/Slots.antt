-- The keys in the slots of an order: what a slot that isn't there, or moves, makes of them.
use Rattle.sorted_list.proofs.Common.{common_steps, nat_tests, cases_lt, cases_Bool, lt-ltb, le-ltb, ne_eqb, map-append, drop_more, length-take-le}
use Rattle.sorted_list.proofs.Common.{get_or-set_same, get_or-set_other, get_or-take, get_or-map, get_or_default, length-map, sum_by-append, sum_by-cons}
use Rattle.sorted_list.proofs.Common.{sum_by-take-drop, sum_by-IsPermutation, IsPermutation-remove, slice_get, slice_get_read, count_some, keys_of, times}
use Rattle.std.proofs.Common.{◌≡◌, ◌≢◌, ℕ, suc, ◌+◌, ◌-◌, ◌<◌, ◌≤◌, Bool, true, false, cond, nat_lt, ◌==◌, List, [], ◌∷◌, ◌++◌, length, get_or, map, set, take, drop, insert, remove, Some, refl, sym, ap, ◌∙◌, inl, inr, arith, eq-eqb}
use Rattle.std.specs.List.{take-map, drop-map}
use Rattle.sorted_list.proofs.Turns.{moved, moved_out, moved_in}

-- edits of a list and of what a function makes of it
pub map-insert : {X Y : Type 0} (f : X → Y) (xs : List X) (i : ℕ) (x : X) → map f (insert xs i x) ≡ insert (map f xs) i (f x)
map-insert f xs i x = map-append f (take i xs) (x ∷ drop i xs) ∙ ap (λ ys. ys ++ f x ∷ map f (drop i xs)) (sym (take-map f i xs)) ∙ ap (λ ys. take i (map f xs) ++ f x ∷ ys) (sym (drop-map f i xs))

pub map-remove : {X Y : Type 0} (f : X → Y) (xs : List X) (i : ℕ) → map f (remove xs i) ≡ remove (map f xs) i
map-remove f xs i = map-append f (take i xs) (drop (suc i) xs) ∙ ap (λ ys. ys ++ map f (drop (suc i) xs)) (sym (take-map f i xs)) ∙ ap (λ ys. take i (map f xs) ++ ys) (sym (drop-map f (suc i) xs))

apart : (x slot : ℕ) → (x == slot) ≡ false → x ≢ slot
apart x slot f e = absurd (let c : true ≡ false = sym (eq-eqb x slot e) ∙ f in cc)

-- a slot that stands nowhere can be written
pub unseen : {K : Type 0} (sample key : K) (slots : List K) (slot : ℕ) (xs : List ℕ) → times slot xs ≡ 0 → map (λ s. get_or (set slots slot key) s sample) xs ≡ map (λ s. get_or slots s sample) xs
unseen sample key slots slot [] h = refl
unseen sample key slots slot (x ∷ xs) h =
    let step = sum_by-cons (λ (s : ℕ). cond (s == slot) 1 0) x xs in
    elim (cases_Bool (x == slot)) [
      | inl t ↦ (let one : ◌≡◌ {A = ℕ} (cond (x == slot) 1 0) 1 = ap (λ (b : Bool). cond b 1 0) t in absurd (omega arith))
      | inr f ↦
          (let none : ◌≡◌ {A = ℕ} (cond (x == slot) 1 0) 0 = ap (λ (b : Bool). cond b 1 0) f in
          let rest = unseen sample key slots slot xs (omega arith) in
          grind (arith, nat_tests, get_or-set_other, apart))
    ]

-- a number that moves stands as often as before
pub times_moved : (order : List ℕ) (place target slot s : ℕ) → place < length order → get_or order place slot ≡ slot → times s (insert (remove order place) target slot) ≡ times s order
times_moved order place target slot s inside is = grind (arith, nat_tests, common_steps, sum_by-IsPermutation)

module _ (order : List ℕ) (size : ℕ) (once : (s : ℕ) → times s order ≡ cond (nat_lt s size) 1 0) where
  -- a slot of the order is there
  pub slot_fits : (i slot : ℕ) → i < length order → get_or order i slot ≡ slot → slot < size
  slot_fits i slot inside is =
      let some : 0 < times slot order = count_some (λ s. s == slot) order i slot inside (eq-eqb _ _ is) in
      elim (cases_lt slot size) [
        | inl l ↦ l
        | inr past ↦ (let none : times slot order ≡ 0 = once slot ∙ ap (λ (b : Bool). cond b 1 0) (le-ltb slot size past) in absurd (omega arith))
      ]

  at_most : (slot : ℕ) → times slot order ≤ 1
  at_most slot =
      elim (cases_Bool (nat_lt slot size)) [
        | inl t ↦ (let e : times slot order ≡ 1 = once slot ∙ ap (λ (b : Bool). cond b 1 0) t in omega arith)
        | inr f ↦ (let e : times slot order ≡ 0 = once slot ∙ ap (λ (b : Bool). cond b 1 0) f in omega arith)
      ]

  -- one behind the front isn't in it
  pub not_in_front : (len slot : ℕ) → len < length order → get_or order len slot ≡ slot → times slot (take len order) ≡ 0
  not_in_front len slot inside is =
      let behind : drop len order ≡ slot ∷ drop (len + 1) order = drop_more order len slot inside ∙ ap (λ (x : ℕ). x ∷ drop (len + 1) order) is in
      let count : times slot (drop len order) ≡ times slot (slot ∷ drop (len + 1) order) = ap (times slot) behind in
      let step = sum_by-cons (λ (s : ℕ). cond (s == slot) 1 0) slot (drop (len + 1) order) in
      let one : ◌≡◌ {A = ℕ} (cond (slot == slot) 1 0) 1 = ap (λ (b : Bool). cond b 1 0) (eq-eqb slot slot refl) in
      omega (arith, sum_by-take-drop (λ (s : ℕ). cond (s == slot) 1 0) order len, at_most slot)

  -- one of the front isn't among its others
  pub not_in_others : (len place slot : ℕ) → len ≤ length order → place < len → get_or order place slot ≡ slot → times slot (remove (take len order) place) ≡ 0
  not_in_others len place slot within inside is =
      let front : get_or (take len order) place slot ≡ slot = get_or-take len order place slot inside ∙ is in
      let size = length-take-le len order within in
      let out = sum_by-IsPermutation (λ (x : ℕ). cond (x == slot) 1 0) (take len order) (slot ∷ remove (take len order) place) (IsPermutation-remove (take len order) place slot (omega arith) (sym front)) in
      let step = sum_by-cons (λ (s : ℕ). cond (s == slot) 1 0) slot (remove (take len order) place) in
      let one : ◌≡◌ {A = ℕ} (cond (slot == slot) 1 0) 1 = ap (λ (b : Bool). cond b 1 0) (eq-eqb slot slot refl) in
      omega (arith, sum_by-take-drop (λ (s : ℕ). cond (s == slot) 1 0) order len, at_most slot)

-- The keys where a slot is written and its number moves: a key comes, takes another one's place, or leaves.
module _ {K : Type 0} (sample key : K) (slots : List K) (order : List ℕ) (len slot : ℕ) (once : (s : ℕ) → times s order ≡ cond (nat_lt s (length slots)) 1 0) where
  put : (i : ℕ) → i < length order → get_or order i slot ≡ slot → get_or (set slots slot key) slot sample ≡ key
  put i inside is = get_or-set_same slots slot key sample (slot_fits order (length slots) once i slot inside is)

  pub key_came : (target : ℕ) → len < length order → get_or order len slot ≡ slot → target ≤ len → keys_of sample (set slots slot key) (insert (remove order len) target slot) (len + 1) ≡ insert (keys_of sample slots order len) target key
  key_came target inside is near =
      let new : ℕ → K = λ s. get_or (set slots slot key) s sample in
      ap (map new) (moved_in order len slot (omega arith) target near)
      ∙ map-insert new (take len order) target slot
      ∙ ap (λ (ks : List K). insert ks target (new slot)) (unseen sample key slots slot (take len order) (not_in_front order (length slots) once len slot inside is))
      ∙ ap (insert (keys_of sample slots order len) target) (put len inside is)

  pub key_changed : (place target : ℕ) → len ≤ length order → place < len → target < len → get_or order place slot ≡ slot → keys_of sample (set slots slot key) (insert (remove order place) target slot) len ≡ insert (remove (keys_of sample slots order len) place) target key
  key_changed place target within inside near is =
      let new : ℕ → K = λ s. get_or (set slots slot key) s sample in
      let old : ℕ → K = λ s. get_or slots s sample in
      ap (map new) (moved order len slot within place target inside near)
      ∙ map-insert new (remove (take len order) place) target slot
      ∙ ap (λ (ks : List K). insert ks target (new slot)) (unseen sample key slots slot (remove (take len order) place) (not_in_others order (length slots) once len place slot within inside is) ∙ map-remove old (take len order) place)
      ∙ ap (insert (remove (keys_of sample slots order len) place) target) (put place (omega arith) is)

  pub key_left : (place : ℕ) → len ≤ length order → place < len → keys_of sample slots (insert (remove order place) (len - 1) slot) (len - 1) ≡ remove (keys_of sample slots order len) place
  key_left place within inside = grind (arith, nat_tests, moved_out, map-remove)

-- one slot more
pub counted_more : (order : List ℕ) (n s : ℕ) → times s order ≡ cond (nat_lt s n) 1 0 → times s (order ++ n ∷ []) ≡ cond (nat_lt s (n + 1)) 1 0
counted_more order n s before = grind (arith, nat_tests, le-ltb, lt-ltb, eq-eqb, ne_eqb, sum_by-cons, nat_lt, sum_by-append)

-- the key at a place
pub key_at : {K : Type 0} (sample : K) (slots : List K) (order : List ℕ) (len place slot : ℕ) (key : K) → place < len → len ≤ length order → slot ≡ get_or order place slot → slot < length slots → key ≡ get_or slots slot key → slice_get (keys_of sample slots order len) place ≡ Some key
key_at {K} sample slots order len place slot key inside within s fits k =
    let size : length (take len order) ≡ len = length-take-le len order within in
    let front : get_or (take len order) place slot ≡ slot = get_or-take len order place slot inside ∙ sym s in
    let this : get_or (keys_of sample slots order len) place key ≡ key =
    grind (arith, nat_tests, get_or-map, get_or_default) in
    slice_get_read (keys_of sample slots order len) len place key (sym (length-map (take len order) (λ s. get_or slots s sample) ∙ size)) inside (sym this)

pub keys_len : {K : Type 0} (sample : K) (slots : List K) (order : List ℕ) (len : ℕ) → len ≤ length order → length (keys_of sample slots order len) ≡ len
keys_len {K} sample slots order len within = length-map (take len order) (λ s. get_or slots s sample) ∙ length-take-le len order within
