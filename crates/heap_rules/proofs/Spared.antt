-- The filler's rows give all their spare pages, or as many as are wanted.
use Rattle.std.proofs.Common.{◌≡◌, ℕ, zero, suc, ◌<◌, ◌≤◌, ◌⊎◌, Bool, true, false, not, ◌&&◌, ◌||◌, cond, nat_lt, nat_eq, List, [], ◌∷◌, length, get_or}
use Rattle.std.proofs.Common.{filter, count_by, sum_by, All, refl, sym, ap, ◌∙◌, inl, inr, arith}
use Rattle.std.specs.List.{list_any}
use Rattle.std.proofs.lemmas.Bool.{cases_Bool, ltb-false, not-true, not-false, false≢true}
use Rattle.std.proofs.lemmas.Bool.Decides.{nat_tests}
use Rattle.std.proofs.lemmas.List.Elements.{All-head, All-tail}
use Rattle.std.proofs.lemmas.List.Folds.{Any-from_list_any, list_any_at}
use Rattle.std.proofs.lemmas.List.Sums.{sum_by-cons, sum_by-le-sum_by}
use Rattle.heap_rules.specs.GiveUp.{SpareRow, gives_before, gives_spare}
use Rattle.tc_units.proofs.Counts.{count-cons, count_le, one-true, one-false}
use Rattle.heap_rules.proofs.Accounts.{sum-filter, same_sums}
use Rattle.heap_rules.proofs.Orders.{by_first, last_is}

-- The order of giving passes on, and no row gives before itself.
abbrev by_used : ℕ → ℕ → ℕ → ℕ → Bool
by_used u h v k = nat_lt u v || (nat_eq u v && nat_lt k h)

before_is : (b a : SpareRow) → gives_before b a ≡ by_used a.used a.number b.used b.number
before_is b a = by_first a.used b.used _ _ (last_is (nat_lt b.number a.number) (nat_eq b.number a.number))

used_passes : (u h v k w l : ℕ) → by_used u h v k ≡ true → by_used v k w l ≡ true → by_used u h w l ≡ true
used_passes u h v k w l a b = grind (arith, nat_tests)

used_itself : (u h : ℕ) → by_used u h u h ≡ false
used_itself u h = grind (arith, nat_tests)

passes : (x y z : SpareRow) → gives_before y x ≡ true → gives_before z y ≡ true → gives_before z x ≡ true
passes x y z a b = before_is z x ∙ used_passes x.used x.number y.used y.number z.used z.number (sym (before_is y x) ∙ a) (sym (before_is z y) ∙ b)

itself : (x : SpareRow) → gives_before x x ≡ false
itself x = before_is x x ∙ used_itself x.used x.number

one_le : (a b : Bool) (n : ℕ) → (a ≡ true → b ≡ true) → cond a n 0 ≤ cond b n 0
one_le a b n h = grind (arith)

-- where no element passes some test, each fails it
none_passes : {X : Type 0} (p : X → Bool) (xs : List X) → list_any p xs ≡ false → All (λ x. p x ≡ false) xs
none_passes p xs none = grind (arith, cases_Bool, false≢true, list_any_at)

-- a test that fails an element which another passes, and passes none that the other fails
count_less : {X : Type 0} (p q : X → Bool) (xs : List X) (k : ℕ) (d : X) → k < length xs → p (get_or xs k d) ≡ false → q (get_or xs k d) ≡ true
    → All (λ x. p x ≡ true → q x ≡ true) xs → count_by p xs < count_by q xs
count_less p q [] k d within fails passes all = absurd (omega arith)
count_less p q (x ∷ xs) zero d within fails passes all =
    let a = count-cons p x xs in
    let b = count-cons q x xs in
    let none = one-false (p x) fails in
    let one = one-true (q x) passes in
    let rest = count_le p q xs (All-tail (λ y. p y ≡ true → q y ≡ true) x xs all) in
    omega arith
count_less p q (x ∷ xs) (suc k) d within fails passes all =
    let a = count-cons p x xs in
    let b = count-cons q x xs in
    let first : cond (p x) 1 0 ≤ cond (q x) 1 0 = one_le (p x) (q x) 1 (All-head (λ y. p y ≡ true → q y ≡ true) x xs all) in
    let rest = count_less p q xs k d (omega arith) fails passes (All-tail (λ y. p y ≡ true → q y ≡ true) x xs all) in
    omega arith

given_or : (b g : Bool) → (b && not g) ≡ false → b ≡ true → g ≡ true
given_or true g e t = not-false g e
given_or false g e t = absurd (false≢true t)

-- what passes one test adds up to no more than what passes another that it passes too
sum_within : {X : Type 0} (f : X → ℕ) (p q : X → Bool) (xs : List X) → All (λ x. p x ≡ true → q x ≡ true) xs → sum_by f (filter p xs) ≤ sum_by f (filter q xs)
sum_within f p q [] all = omega arith
sum_within f p q (x ∷ xs) all =
    grind (arith, sum_within f p q xs (All-tail (λ y. p y ≡ true → q y ≡ true) x xs all), sum-filter, sum_by-cons, one_le, All-head, All-tail)

module _ (rows : List SpareRow) (n : ℕ) where
  abbrev gives : SpareRow → Bool
  gives = gives_spare rows n

  abbrev pub spared : ℕ
  spared = sum_by (λ r. r.spare) (filter gives rows)

  abbrev pub all_spare : ℕ
  all_spare = sum_by (λ r. r.spare) rows

  -- Where a row does not give, those before it have enough; and if one of these does not give, it has fewer before it.
  step : (m : ℕ) → ((s : SpareRow) → gives s ≡ false → count_by (gives_before s) rows < m → n ≤ spared)
      → (r : SpareRow) → gives r ≡ false → count_by (gives_before r) rows ≤ m → n ≤ spared
  step m earlier r stays few =
      let before : SpareRow → Bool = λ s. gives_before r s && not (gives s) in
      elim (cases_Bool (list_any before rows)) [
        | inr none ↦
            (let wanted : n ≤ sum_by (λ s. s.spare) (filter (gives_before r) rows) = ltb-false (sum_by (λ s. s.spare) (filter (gives_before r) rows)) n stays in
            let within : sum_by (λ s. s.spare) (filter (gives_before r) rows) ≤ spared = sum_within (λ s. s.spare) (gives_before r) gives rows
            (λ k d l e. given_or (gives_before r (get_or rows k d)) (gives (get_or rows k d)) (none_passes before rows none k d l) e) in
            omega arith)
        | inl some ↦ grind (arith, nat_tests, Any-from_list_any before rows some, count_less, itself, passes, earlier, not-true)
      ]

  enough_from : (m : ℕ) (r : SpareRow) → gives r ≡ false → count_by (gives_before r) rows ≤ m → n ≤ spared
  enough_from zero r stays few = step 0 (λ s t less. absurd (omega arith)) r stays few
  enough_from (suc m) r stays few = step (suc m) (λ s t less. enough_from m s t (omega arith)) r stays few

  pub all_or_enough : (spared ≡ all_spare) ⊎ ((n ≤ spared) × (n ≤ all_spare))
  all_or_enough =
      elim (cases_Bool (list_any (λ s. not (gives s)) rows)) [
        | inr none ↦ inl (sum-filter (λ r. r.spare) gives rows ∙ same_sums (λ r. cond (gives r) r.spare 0) (λ r. r.spare) rows
            (λ k d l. ap (λ b. cond b (get_or rows k d).spare 0) (not-false (gives (get_or rows k d)) (none_passes (λ s. not (gives s)) rows none k d l))))
        | inl some ↦
            (let any = Any-from_list_any (λ s. not (gives s)) rows some in
            let enough : n ≤ spared = enough_from (count_by (gives_before any.1) rows) any.1 (not-true (gives any.1) any.4) (omega arith) in
            let part = sum-filter (λ r. r.spare) gives rows in
            let most = sum_by-le-sum_by (λ r. cond (gives r) r.spare 0) (λ r. r.spare) rows (λ r. one_le (gives r) true r.spare (λ _. refl)) in
            inr (enough, omega arith))
      ]
