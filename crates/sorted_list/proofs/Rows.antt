-- A sorted list of rows' keys: what it says of them, and how it follows their changes.
use Rattle.std.proofs.Common.{◌≡◌, ℕ, suc, ◌+◌, ◌<◌, Bool, true, not, ◌&&◌, cond, List, [], ◌∷◌, count_by, Contains, IsPermutation, refl, sym, ap, subst, ◌∙◌, inl, inr, arith}
use Rattle.sorted_list.proofs.Common.{cases_Bool, and_parts, and_from, not_from_false, not-true, sum_by-cons, sum_by-IsPermutation, count_some, IsOrder}
use Rattle.sorted_list.specs.Rows.{IsIndexOf}
use Rattle.sorted_list.proofs.Changes.{not_itself}

-- an element that passes, where some are counted
pub found_some : {X : Type 0} (p : X → Bool) (xs : List X) → 0 < count_by p xs → (x : X) × Contains xs x × (p x ≡ true)
found_some p [] h = absurd (omega arith)
found_some p (x ∷ xs) h =
    let step = sum_by-cons (λ y. cond (p y) 1 0) x xs in
    elim (cases_Bool (p x)) [
      | inl t ↦ (x, (0, omega arith, refl), t)
      | inr f ↦
          (let none : ◌≡◌ {A = ℕ} (cond (p x) 1 0) 0 = ap (λ (b : Bool). cond b 1 0) f in
          let rest = found_some p xs (omega arith) in
          (rest.0, (suc rest.1.0, omega (arith, rest.1.1), rest.1.2), rest.2))
    ]

pub count_held : {X : Type 0} (p : X → Bool) (xs : List X) (x : X) → Contains xs x → p x ≡ true → 0 < count_by p xs
count_held p xs x held pass = count_some p xs held.0 x held.1 (ap p held.2 ∙ pass)

-- whether two keys are one
abbrev is_same : {K : Type 0} → (K → K → Bool) → K → K → Bool
is_same before a b = not (before a b) && not (before b a)

module _ {K : Type 0} (before : K → K → Bool) (total : IsOrder K before) where
  same_itself : (a : K) → is_same before a a ≡ true
  same_itself a = and_from _ _ (not_from_false _ (not_itself before total a)) (not_from_false _ (not_itself before total a))

  same_keys : (a b : K) → is_same before a b ≡ true → a ≡ b
  same_keys a b h = let parts = and_parts _ _ h in total.same a b (not-true _ parts.0) (not-true _ parts.1)

  -- the key of each row is held
  pub key_held : {R : Type 0} (key : R → K) (rows : List R) (keys : List K) (row : R) → IsIndexOf key rows keys → Contains rows row → Contains keys (key row)
  key_held key rows keys row index held =
      let some = count_held (λ r. is_same before (key row) (key r)) rows row held (same_itself (key row)) in
      let there = found_some (is_same before (key row)) keys (omega (arith, index (is_same before (key row)))) in
      subst (λ (k : K). Contains keys k) (sym (same_keys (key row) there.0 there.2)) there.1

  -- the row of each key
  pub row_held : {R : Type 0} (key : R → K) (rows : List R) (keys : List K) (k : K) → IsIndexOf key rows keys → Contains keys k → (row : R) × Contains rows row × (key row ≡ k)
  row_held key rows keys k index held = grind (arith, count_held (is_same before k) keys k held (same_itself k), same_itself k, found_some, same_keys)

module _ {R K : Type 0} (key : R → K) where
  -- as many keys as rows
  pub as_many : (rows : List R) (keys : List K) → IsIndexOf key rows keys → count_by (λ k. true) keys ≡ count_by (λ r. true) rows
  as_many rows keys index = index (λ k. true)

  -- Changes: a row comes, a row leaves, a row becomes another one.
  pub index_more : (rows rows' : List R) (keys keys' : List K) (k : K) → IsIndexOf key rows keys → IsPermutation (k ∷ keys) keys' → ((test : K → Bool) → count_by (λ row. test (key row)) rows' ≡ cond (test k) 1 0 + count_by (λ row. test (key row)) rows) → IsIndexOf key rows' keys'
  index_more rows rows' keys keys' k index moved came test =
      omega (arith, sum_by-IsPermutation (λ x. cond (test x) 1 0) (k ∷ keys) keys' moved, sum_by-cons (λ x. cond (test x) 1 0) k keys, index test, came test)

  pub index_fewer : (rows rows' : List R) (keys keys' : List K) (k : K) → IsIndexOf key rows keys → IsPermutation keys (k ∷ keys') → ((test : K → Bool) → cond (test k) 1 0 + count_by (λ row. test (key row)) rows' ≡ count_by (λ row. test (key row)) rows) → IsIndexOf key rows' keys'
  index_fewer rows rows' keys keys' k index moved gone test =
      omega (arith, sum_by-IsPermutation (λ x. cond (test x) 1 0) keys (k ∷ keys') moved, sum_by-cons (λ x. cond (test x) 1 0) k keys', index test, gone test)

  pub index_changed : (rows rows' : List R) (keys keys' : List K) (k k' : K) → IsIndexOf key rows keys → IsPermutation (k' ∷ keys) (k ∷ keys') → ((test : K → Bool) → cond (test k) 1 0 + count_by (λ row. test (key row)) rows' ≡ cond (test k') 1 0 + count_by (λ row. test (key row)) rows) → IsIndexOf key rows' keys'
  index_changed rows rows' keys keys' k k' index moved changed test =
      let count = sum_by-IsPermutation (λ x. cond (test x) 1 0) (k' ∷ keys) (k ∷ keys') moved in
      omega (arith, count, sum_by-cons (λ x. cond (test x) 1 0) k' keys, sum_by-cons (λ x. cond (test x) 1 0) k keys', index test, changed test)
