-- Sets of blocks side by side, each within its own range of addresses: what one more and one less make of them all.
use Rattle.std.proofs.Common.{◌≡◌, ◌≢◌, ℕ, zero, suc, ◌+◌, ◌<◌, ◌≤◌, Bool, false, not, filter, List, [], ◌∷◌, ◌++◌}
use Rattle.std.proofs.Common.{Some, None, refl, sym, subst, inl, inr, arith}
use Rattle.std.specs.Prelude.{◌==◌, find, All, flat_map, sum_by}
use Rattle.std.specs.List.{list_any, range_with_len}
use Rattle.std.proofs.lemmas.Bool.{cases_eq, cases_order}
use Rattle.std.proofs.lemmas.List.Elements.{All-nil, All-head, All-tail, All-append, All-filter, All-weaker, filter-append}
use Rattle.std.proofs.lemmas.List.Folds.{find-append, list_any-append, list_any_none}
use Rattle.std.proofs.lemmas.List.Sums.{sum_by-cons}
use Rattle.std.proofs.lemmas.Bool.Decides.{nat_tests}
use Rattle.tc_units.proofs.SortedFacts.{All-with_item}
use Rattle.tc_model.specs.declared.answers.Answer.{Answer}
use Rattle.tc_model.specs.declared.answers.Answer.TheVariants.{Block, Freed}
use Rattle.tc_model.specs.Blocks.{Extent, with_block, without_block, blocks_with, meets}

-- a block with a byte, within the range of a number
pub record IsWithin (start : ℕ → ℕ) (k : ℕ) (b : Extent) : Type 0 where
  pub some : 0 < b.len
  pub from : start k ≤ b.addr
  pub to : b.addr + b.len ≤ start (k + 1)

-- what an answer adds or takes away lies there
abbrev pub FitsIn : (ℕ → ℕ) → ℕ → Answer → Type 0
FitsIn start k (Block addr len) = IsWithin start k (record { addr = addr.0; len = len })
FitsIn start k (Freed addr) = (len : ℕ) × IsWithin start k (record { addr = addr.0; len = len })
FitsIn start k answer = Unit {0}

-- the sets of n numbers from one on
abbrev pub joined : (ℕ → List Extent) → ℕ → ℕ → List Extent
joined f a n = flat_map f (range_with_len a n)

pub joined_none : (a n : ℕ) → joined (λ j. []) a n ≡ []
joined_none a zero = refl
joined_none a (suc n) = joined_none (a + 1) n

same_joined : (f g : ℕ → List Extent) (a n : ℕ) → ((j : ℕ) → a ≤ j → g j ≡ f j) → joined g a n ≡ joined f a n
same_joined f g a zero same = refl
same_joined f g a (suc n) same = rw (same a (omega arith), same_joined f g (a + 1) n (λ j past. same j (omega (arith, past)))) refl

-- what holds of each set holds of all: a property of its blocks, what a test keeps, that none passes it, and a sum
all_joined : (P : Extent → Type 0) (f : ℕ → List Extent) (a n : ℕ) → ((j : ℕ) → a ≤ j → All P (f j)) → All P (joined f a n)
all_joined P f a zero each = All-nil P
all_joined P f a (suc n) each =
    All-append P (f a) (joined f (a + 1) n) (each a (omega arith)) (all_joined P f (a + 1) n (λ j past. each j (omega (arith, past))))

filter_joined : (p : Extent → Bool) (f g : ℕ → List Extent) → ((j : ℕ) → filter p (f j) ≡ g j) → (a n : ℕ) → filter p (joined f a n) ≡ joined g a n
filter_joined p f g each a zero = refl
filter_joined p f g each a (suc n) = rw (filter-append p (f a) (joined f (a + 1) n), each a, filter_joined p f g each (a + 1) n) refl

any_joined : (p : Extent → Bool) (f : ℕ → List Extent) → ((j : ℕ) → list_any p (f j) ≡ false) → (a n : ℕ) → list_any p (joined f a n) ≡ false
any_joined p f each a zero = refl
any_joined p f each a (suc n) = rw (list_any-append p (f a) (joined f (a + 1) n), each a) (any_joined p f each (a + 1) n)

pub sum_joined : (m : List Extent → ℕ) (f : ℕ → List Extent) (g : ℕ → ℕ) → m [] ≡ 0 → ((bs cs : List Extent) → m (bs ++ cs) ≡ m bs + m cs)
    → ((j : ℕ) → m (f j) ≡ g j) → (a n : ℕ) → m (joined f a n) ≡ sum_by g (range_with_len a n)
sum_joined m f g none adds each a zero = none
sum_joined m f g none adds each a (suc n) = grind (arith, sum_joined m f g none adds each (a + 1) n, sum_by-cons)

-- A block goes into the first of two lists where it begins before the second, and into the second where it begins behind the first.
abbrev Before : Extent → Extent → Type 0
Before x b = b.addr ≤ x.addr

abbrev Behind : Extent → Extent → Type 0
Behind x b = x.addr < b.addr

with_first : (x : Extent) (bs cs : List Extent) → All (Behind x) cs → with_block x (bs ++ cs) ≡ with_block x bs ++ cs
with_first x [] [] behind = refl
with_first x [] (c ∷ cs) behind = let next = All-head (Behind x) c cs behind in grind (arith, nat_tests)
with_first x (b ∷ bs) cs behind = grind (arith, nat_tests, with_first x bs cs behind)

with_later : (x : Extent) (bs cs : List Extent) → All (Before x) bs → with_block x (bs ++ cs) ≡ bs ++ with_block x cs
with_later x [] cs before = refl
with_later x (b ∷ bs) cs before = grind (arith, with_later x bs cs (All-tail (Before x) b bs before), All-head, All-tail)

-- Nothing is taken away from a list, or found in it, where no block begins at the address.
abbrev Away : ℕ → Extent → Type 0
Away a b = b.addr ≢ a

without_absent : (a : ℕ) (bs : List Extent) → All (Away a) bs → without_block a bs ≡ bs
without_absent a [] away = refl
without_absent a (b ∷ bs) away = grind (arith, without_absent a bs (All-tail (Away a) b bs away), All-head, All-tail)

find_absent : (a : ℕ) (bs : List Extent) → All (Away a) bs → find (λ b. b.addr == a) bs ≡ None
find_absent a [] away = refl
find_absent a (b ∷ bs) away = grind (arith, find_absent a bs (All-tail (Away a) b bs away), All-head, All-tail)

-- what holds at one number and at all others
pub at_each : (P : ℕ → Type 0) (k : ℕ) → P k → ((j : ℕ) → j ≢ k → P j) → (j : ℕ) → P j
at_each P k own others j = elim (cases_eq j k) [ inl e ↦ subst P (sym e) own | inr other ↦ others j other ]

module _ (start : ℕ → ℕ) (rises : (j k : ℕ) → j < k → start (j + 1) ≤ start k) where
  -- a block within one range, and one number's blocks
  module _ (k : ℕ) (x : Extent) (here : IsWithin start k x) (f : ℕ → List Extent) (inside : (j : ℕ) → All (IsWithin start j) (f j)) where
    before : (j : ℕ) → j < k → All (Before x) (f j)
    before j less = All-weaker (IsWithin start j) (Before x) (λ b h. omega (arith, here.from, h.to, rises j k less)) (f j) (inside j)

    behind : (j : ℕ) → k < j → All (Behind x) (f j)
    behind j more = All-weaker (IsWithin start j) (Behind x) (λ b h. omega (arith, here.some, here.to, h.from, rises k j more)) (f j) (inside j)

    away : (j : ℕ) → j ≢ k → All (Away x.addr) (f j)
    away j other = grind (arith, All-weaker, cases_order)

    unmet : (j : ℕ) → j ≢ k → list_any (meets x) (f j) ≡ false
    unmet j other = grind (arith, list_any_none, All-weaker, cases_order)

    -- no block of theirs meets it where none of its own number does, and what is found there is found among all
    pub unmet_by_all : list_any (meets x) (f k) ≡ false → (n : ℕ) → list_any (meets x) (joined f 0 n) ≡ false
    unmet_by_all apart n = any_joined (meets x) f (at_each (λ j. list_any (meets x) (f j) ≡ false) k apart unmet) 0 n

    pub find_joined : (b : Extent) → find (λ c. c.addr == x.addr) (f k) ≡ Some b → (a n : ℕ) → a ≤ k → k < a + n
        → find (λ c. c.addr == x.addr) (joined f a n) ≡ Some b
    find_joined b found a zero from to = absurd (omega arith)
    find_joined b found a (suc n) from to =
        let parts = find-append (λ (c : Extent). c.addr == x.addr) (f a) (joined f (a + 1) n) in
        grind (arith, nat_tests, find_joined b found (a + 1) n, find_absent x.addr (f a), away a)

    -- one block more, and one less
    module _ (g : ℕ → List Extent) (same : (j : ℕ) → j ≢ k → g j ≡ f j) where
      with_joined : g k ≡ with_block x (f k) → (a n : ℕ) → a ≤ k → k < a + n → with_block x (joined f a n) ≡ joined g a n
      with_joined new a zero from to = absurd (omega arith)
      with_joined new a (suc n) from to =
          elim (cases_eq a k) [
            | inl e ↦ grind (arith, same_joined f g (a + 1) n, all_joined (Behind x) f (a + 1) n, behind, with_first x (f a) (joined f (a + 1) n))
            | inr other ↦ grind (arith, with_joined new (a + 1) n, with_later x (f a) (joined f (a + 1) n), before a)
          ]

      without_joined : g k ≡ without_block x.addr (f k) → (n : ℕ) → without_block x.addr (joined f 0 n) ≡ joined g 0 n
      without_joined new n = grind (arith, without_absent, away, filter_joined, at_each)

  -- what an answer within one range makes of them
  pub within_with : (k : ℕ) (bs : List Extent) (answer : Answer) → FitsIn start k answer → All (IsWithin start k) bs
      → All (IsWithin start k) (blocks_with bs answer)
  within_with k bs (Block addr len) fits all = All-with_item (λ (b : Extent). b.addr) (IsWithin start k) (record { addr = addr.0; len = len }) bs fits all
  within_with k bs (Freed addr) fits all = All-filter (λ (b : Extent). not (b.addr == addr.0)) (IsWithin start k) bs all
  within_with k bs answer fits all = all

  pub blocks_joined : (k : ℕ) (f g : ℕ → List Extent) (answer : Answer) → ((j : ℕ) → All (IsWithin start j) (f j)) → FitsIn start k answer
      → g k ≡ blocks_with (f k) answer → ((j : ℕ) → j ≢ k → g j ≡ f j) → (n : ℕ) → k < n → blocks_with (joined f 0 n) answer ≡ joined g 0 n
  blocks_joined k f g (Block addr len) inside fits new same n there =
      with_joined k (record { addr = addr.0; len = len }) fits f inside g same new 0 n (omega arith) (omega (arith, there))
  blocks_joined k f g (Freed addr) inside fits new same n there = without_joined k (record { addr = addr.0; len = fits.0 }) fits.1 f inside g same new n
  blocks_joined k f g answer inside fits new same n there = let each = at_each (λ j. g j ≡ f j) k new same in sym (same_joined f g 0 n (λ j past. each j))
