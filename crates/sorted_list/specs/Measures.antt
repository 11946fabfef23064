-- Orders by measures: the first measure that differs decides.
use Rattle.std.proofs.Common.{◌≡◌, ℕ, ◌<◌, Bool, true, false, nat_lt, ◌⊎◌, inl, inr, sym, ◌∙◌, arith}
use Rattle.std.proofs.lemmas.Bool.{cases_lt, lt-ltb}
use Rattle.std.proofs.lemmas.Bool.Decides.{nat_tests}
use Rattle.sorted_list.specs.Order.{first_by, IsOrder}

pub less : (x y : ℕ) (r : Bool) → x < y → first_by x y r ≡ true
less x y r h = grind (arith, nat_tests)

pub equal : (x y : ℕ) (r : Bool) → x ≡ y → first_by x y r ≡ r
equal x y true e = grind (arith, nat_tests)
equal x y false e = grind (arith, nat_tests)

pub more : (x y : ℕ) (r : Bool) → y < x → first_by x y r ≡ false
more x y r h = grind (arith, nat_tests)

-- what one that comes first, or doesn't, has
pub yes : (x y : ℕ) (r : Bool) → first_by x y r ≡ true → (x < y) ⊎ ((x ≡ y) × (r ≡ true))
yes x y r h =
    elim (cases_lt x y) [
      | inl l ↦ inl l
      | inr g ↦ elim (cases_lt y x) [
        | inl m ↦ absurd (let c : false ≡ true = sym (more x y r m) ∙ h in cc)
        | inr e ↦ inr (omega arith, sym (equal x y r (omega arith)) ∙ h)
      ]
    ]

pub not_yes : (x y : ℕ) (r : Bool) → first_by x y r ≡ false → (y < x) ⊎ ((x ≡ y) × (r ≡ false))
not_yes x y r h =
    elim (cases_lt x y) [
      | inl l ↦ absurd (let c : true ≡ false = sym (less x y r l) ∙ h in cc)
      | inr g ↦ elim (cases_lt y x) [
        | inl m ↦ inl m
        | inr e ↦ inr (omega arith, sym (equal x y r (omega arith)) ∙ h)
      ]
    ]

pass_first : (a b p : ℕ) (r s t : Bool) → first_by b a r ≡ false → first_by b p s ≡ true → (r ≡ false → s ≡ true → t ≡ true) → first_by a p t ≡ true
pass_first a b p r s t h k rest =
    elim (not_yes b a r h) [
      | inl l ↦ elim (yes b p s k) [
        | inl m ↦ less a p t (omega arith)
        | inr m ↦ less a p t (omega (arith, m.0))
      ]
      | inr l ↦ elim (yes b p s k) [
        | inl m ↦ less a p t (omega (arith, l.0))
        | inr m ↦ equal a p t (omega (arith, l.0, m.0)) ∙ rest l.1 m.1
      ]
    ]

pass_last : (a b p : ℕ) (r s t : Bool) → first_by a b r ≡ false → first_by p b s ≡ true → (r ≡ false → s ≡ true → t ≡ true) → first_by p a t ≡ true
pass_last a b p r s t h k rest =
    elim (not_yes a b r h) [
      | inl l ↦ elim (yes p b s k) [
        | inl m ↦ less p a t (omega arith)
        | inr m ↦ less p a t (omega (arith, m.0))
      ]
      | inr l ↦ elim (yes p b s k) [
        | inl m ↦ less p a t (omega (arith, l.0))
        | inr m ↦ equal p a t (omega (arith, l.0, m.0)) ∙ rest l.1 m.1
      ]
    ]

pass_number : (a b p : ℕ) → nat_lt b a ≡ false → nat_lt b p ≡ true → nat_lt a p ≡ true
pass_number a b p h k = grind (arith, nat_tests)

pass_back : (a b p : ℕ) → nat_lt a b ≡ false → nat_lt p b ≡ true → nat_lt p a ≡ true
pass_back a b p h k = grind (arith, nat_tests)

back : (x y : ℕ) (r s : Bool) → first_by x y r ≡ true → (r ≡ true → s ≡ false) → first_by y x s ≡ false
back x y r s h rest =
    elim (yes x y r h) [
      | inl l ↦ more y x s l
      | inr e ↦ equal y x s (omega (arith, e.0)) ∙ rest e.1
    ]

back_number : (x y : ℕ) → nat_lt x y ≡ true → nat_lt y x ≡ false
back_number x y h = grind (arith, nat_tests)

level : (x y : ℕ) (r s : Bool) → first_by x y r ≡ false → first_by y x s ≡ false → (x ≡ y) × (r ≡ false) × (s ≡ false)
level x y r s h k =
    elim (not_yes x y r h) [
      | inl l ↦ elim (not_yes y x s k) [
        | inl m ↦ absurd (omega arith)
        | inr m ↦ absurd (omega (arith, m.0))
      ]
      | inr l ↦ elim (not_yes y x s k) [
        | inl m ↦ absurd (omega (arith, l.0))
        | inr m ↦ (l.0, l.1, m.1)
      ]
    ]

level_number : (x y : ℕ) → nat_lt x y ≡ false → nat_lt y x ≡ false → x ≡ y
level_number x y h k =
    elim (cases_lt x y) [
      | inl l ↦ absurd (let c : true ≡ false = sym (lt-ltb x y l) ∙ h in cc)
      | inr g ↦ elim (cases_lt y x) [
        | inl l ↦ absurd (let c : true ≡ false = sym (lt-ltb y x l) ∙ k in cc)
        | inr e ↦ omega arith
      ]
    ]

-- An order that tells keys apart as far as some measures go.
pub record IsOrderBy (K : Type 0) (before : K → K → Bool) (alike : K → K → Type 0) : Type 0 where
  pub one_way : (a b : K) → before a b ≡ true → before b a ≡ false
  pub passes : (a b c : K) → before b a ≡ false → before b c ≡ true → before a c ≡ true
  pub same : (a b : K) → before a b ≡ false → before b a ≡ false → alike a b

pub order_of : {K : Type 0} (before : K → K → Bool) (alike : K → K → Type 0) → IsOrderBy K before alike → ((a b : K) → alike a b → a ≡ b) → IsOrder K before
order_of before alike by one = record { one_way = by.one_way; passes = by.passes; same = λ a b h k. one a b (by.same a b h k) }

-- the least number first
pub by_number : {K : Type 0} (f : K → ℕ) → IsOrderBy K (λ a b. nat_lt (f a) (f b)) (λ a b. f a ≡ f b)
by_number f = record { one_way = λ a b h. back_number (f a) (f b) h; passes = λ a b c h k. pass_number (f a) (f b) (f c) h k; same = λ a b h k. level_number (f a) (f b) h k }

-- or the greatest
pub by_greatest : {K : Type 0} (f : K → ℕ) → IsOrderBy K (λ a b. nat_lt (f b) (f a)) (λ a b. f b ≡ f a)
by_greatest f = record { one_way = λ a b h. back_number (f b) (f a) h; passes = λ a b c h k. pass_back (f a) (f b) (f c) h k; same = λ a b h k. level_number (f b) (f a) h k }

-- a measure before others: the least first, or the greatest
pub least_first : {K : Type 0} (f : K → ℕ) (rest : K → K → Bool) (alike : K → K → Type 0) → IsOrderBy K rest alike → IsOrderBy K (λ a b. first_by (f a) (f b) (rest a b)) (λ a b. (f a ≡ f b) × alike a b)
least_first f rest alike by =
    record {
      one_way = λ a b h. back (f a) (f b) (rest a b) (rest b a) h (by.one_way a b);
      passes = λ a b c h k. pass_first (f a) (f b) (f c) (rest b a) (rest b c) (rest a c) h k (by.passes a b c);
      same = λ a b h k. let l = level (f a) (f b) (rest a b) (rest b a) h k in (l.0, by.same a b l.1 l.2);
    }

pub greatest_first : {K : Type 0} (f : K → ℕ) (rest : K → K → Bool) (alike : K → K → Type 0) → IsOrderBy K rest alike → IsOrderBy K (λ a b. first_by (f b) (f a) (rest a b)) (λ a b. (f b ≡ f a) × alike a b)
greatest_first f rest alike by =
    record {
      one_way = λ a b h. back (f b) (f a) (rest a b) (rest b a) h (by.one_way a b);
      passes = λ a b c h k. pass_last (f a) (f b) (f c) (rest b a) (rest b c) (rest a c) h k (by.passes a b c);
      same = λ a b h k. let l = level (f b) (f a) (rest a b) (rest b a) h k in (l.0, by.same a b l.1 l.2);
    }
