-- Counts of elements that pass a test.
use Rattle.std.proofs.Common.{◌≡◌, ℕ, zero, suc, ◌+◌, ◌-◌, ◌<◌, ◌≤◌, Bool, true, false, ◌&&◌, cond, List, [], ◌∷◌, count_by, filter, Contains, refl, sym, ap}
use Rattle.std.proofs.Common.{subst, inl, inr, arith}
use Rattle.free_ranges.proofs.Common.{nat_tests, range_with_len, cases_Bool, sum_by-cons, sum_by-append, range-append}

-- those that pass another test beside
pub count_filter : {X : Type 0} (p q : X → Bool) (xs : List X) → count_by q (filter p xs) ≡ count_by (λ x. p x && q x) xs
count_filter p q [] = refl
count_filter p q (x ∷ xs) =
    let rest = count_filter p q xs in
    let step = sum_by-cons (λ y. cond (p y && q y) 1 0) x xs in
    elim (cases_Bool (p x)) [
      | inl t ↦
          (let e : count_by q (filter p (x ∷ xs)) ≡ count_by q (x ∷ filter p xs) = ap (λ (b : Bool). count_by q (cond b (x ∷ filter p xs) (filter p xs))) t in
          let here : ◌≡◌ {A = ℕ} (cond (p x && q x) 1 0) (cond (q x) 1 0) = ap (λ (b : Bool). cond (b && q x) 1 0) t in
          omega (arith, sum_by-cons (λ y. cond (q y) 1 0) x (filter p xs)))
      | inr f ↦ grind (arith, nat_tests, count_by)
    ]

-- an element that passes is kept
pub kept_by : {X : Type 0} (p : X → Bool) (xs : List X) (x : X) → Contains xs x → p x ≡ true → Contains (filter p xs) x
kept_by p [] x held pass = absurd (omega (arith, held.1))
kept_by p (y ∷ xs) x (zero, l, e) pass = grind (arith, nat_tests, Contains)
kept_by p (y ∷ xs) x (suc k, l, e) pass =
    let rest = kept_by p xs x (k, omega arith, e) pass in
    let P : List _ → Type 0 = λ ys. Contains ys x in
    elim (cases_Bool (p y)) [
      | inl t ↦ (let here : filter p (y ∷ xs) ≡ y ∷ filter p xs = ap (λ (b : Bool). cond b (y ∷ filter p xs) (filter p xs)) t in subst P (sym here) (suc rest.0, omega (arith, rest.1), rest.2))
      | inr f ↦ (let here : filter p (y ∷ xs) ≡ filter p xs = ap (λ (b : Bool). cond b (y ∷ filter p xs) (filter p xs)) f in subst P (sym here) rest)
    ]

-- tests of numbers in a row: alike at each, passed by none, and cut in two
pub count_same : (f g : ℕ → Bool) (a n : ℕ) → ((p : ℕ) → a ≤ p → p < a + n → f p ≡ g p) → count_by f (range_with_len a n) ≡ count_by g (range_with_len a n)
count_same f g a zero same = refl
count_same f g a (suc n) same =
    let rest = count_same f g (a + 1) n (λ p from to. same p (omega arith) (omega arith)) in
    let here : ◌≡◌ {A = ℕ} (cond (f a) 1 0) (cond (g a) 1 0) = ap (λ (b : Bool). cond b 1 0) (same a (omega arith) (omega arith)) in
    omega (arith, sum_by-cons (λ (p : ℕ). cond (f p) 1 0) a (range_with_len (a + 1) n), sum_by-cons (λ (p : ℕ). cond (g p) 1 0) a (range_with_len (a + 1) n))

pub count_no_one : (f : ℕ → Bool) (a n : ℕ) → ((p : ℕ) → a ≤ p → p < a + n → f p ≡ false) → count_by f (range_with_len a n) ≡ 0
count_no_one f a zero none = refl
count_no_one f a (suc n) none = grind (arith, nat_tests, sum_by-cons, count_no_one f (a + 1) n)

pub count_cut : (f : ℕ → Bool) (a b c : ℕ) → a ≤ b → b ≤ c → count_by f (range_with_len a (c - a)) ≡ count_by f (range_with_len a (b - a)) + count_by f (range_with_len b (c - b))
count_cut f a b c low high =
    let whole : c - a ≡ (b - a) + (c - b) = omega arith in
    grind (arith, nat_tests, count_by, range_with_len, range-append, sum_by-append)
