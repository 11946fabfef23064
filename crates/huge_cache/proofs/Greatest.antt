-- The greatest of the last counts: what a newer count and the oldest one's leaving make of them.
use Rattle.huge_cache.proofs.Common.{common_steps, nat_tests, last_or, option_eq, cases_lt, le-leb, lt-leb, leb-true, lt-ltb, eqb-true, eqb-false, cond_both}
use Rattle.huge_cache.proofs.Common.{take_all, length_push, append-nil, All-head, All-tail, All-take, All-filter, All-push, All-get_or, All-nil}
use Rattle.huge_cache.proofs.Common.{All-from_get_or, filter_passes, filter_more, length-filter, count_by-le-length, fold_max, with_newest, greatest_of}
use Rattle.huge_cache.proofs.Common.{IsFalling}
use Rattle.std.proofs.Common.{◌≡◌, ℕ, zero, suc, ◌+◌, ◌-◌, ◌<◌, ◌≤◌, Bool, true, false, nat_le, nat_lt, eqb, cond, Option, Some, unwrap_or, is_some, List, []}
use Rattle.std.proofs.Common.{◌∷◌, ◌++◌, length, get_or, take, drop, filter, fold, max, All, refl, sym, ap, ◌∙◌, arith}

kept_first : (x y : ℕ) (l : List ℕ) → y ≤ x → with_newest (x ∷ l) y ≡ x ∷ with_newest l y
kept_first x y l h = ap (λ (b : Bool). cond b (x ∷ filter (λ z. nat_le y z) l) (filter (λ z. nat_le y z) l) ++ y ∷ []) (le-leb y x h)

lost_first : (x y : ℕ) (l : List ℕ) → x < y → with_newest (x ∷ l) y ≡ with_newest l y
lost_first x y l h = ap (λ (b : Bool). cond b (x ∷ filter (λ z. nat_le y z) l) (filter (λ z. nat_le y z) l) ++ y ∷ []) (lt-leb y x h)

same_test : (x y : ℕ) (ys : List ℕ) → y ≤ x → nat_le (fold max 0 ys) x ≡ nat_le (fold max 0 (y ∷ ys)) x
same_test x y ys h = grind (arith, nat_tests, fold_max, lt-leb, le-leb)

-- an older count stays in front where no later one is greater
older : (x : ℕ) (l xs : List ℕ) → fold with_newest (x ∷ l) xs ≡ cond (nat_le (fold max 0 xs) x) (x ∷ fold with_newest l xs) (fold with_newest l xs)
older x l [] = sym (ap (λ (b : Bool). cond b (x ∷ l) l) (le-leb 0 x (omega arith)))
older x l (y ∷ ys) = grind (arith, nat_tests, cases_lt, lost_first, lt-leb, fold_max, kept_first, same_test, older x (with_newest l y) ys)

oldest : (x : ℕ) (xs : List ℕ) → greatest_of (x ∷ xs) ≡ cond (nat_le (fold max 0 xs) x) (x ∷ greatest_of xs) (greatest_of xs)
oldest x xs = older x [] xs

-- the first of them is the greatest of all
pub first_greatest : (xs : List ℕ) → get_or (greatest_of xs) 0 0 ≡ fold max 0 xs
first_greatest [] = refl
first_greatest (x ∷ xs) = grind (arith, nat_tests, first_greatest xs, fold_max, oldest)

-- the oldest count leaves: it is the first of the greatest ones, or none of them
first_leaves : (counts : List ℕ) → 0 < length counts → get_or counts 0 0 ≡ get_or (greatest_of counts) 0 0 → drop 1 (greatest_of counts) ≡ greatest_of (drop 1 counts)
first_leaves counts some same = grind (arith, nat_tests, first_greatest, fold_max, le-leb, oldest)

was_less : (counts : List ℕ) → 0 < length counts → ((l : List ℕ) → greatest_of counts ≡ get_or counts 0 0 ∷ l → ⊥) → greatest_of counts ≡ greatest_of (drop 1 counts)
was_less counts some other = grind (arith, nat_tests, lt-leb, le-leb, oldest)

same_option : (x : ℕ) (f : Option ℕ) → option_eq eqb (Some x) f ≡ true → x ≡ unwrap_or f 0
same_option x f h = grind (arith, nat_tests, eqb-true)

other_option : (x : ℕ) (f : Option ℕ) → option_eq eqb (Some x) f ≡ false → is_some f ≡ true → unwrap_or f 0 ≡ x → ⊥
other_option x f h some e = grind (arith, nat_tests, eqb-false)

pub oldest_is_first : (counts greatest : List ℕ) (o f : Option ℕ) → 0 < length counts → greatest ≡ greatest_of counts → o ≡ Some (get_or counts 0 0) → unwrap_or f 0 ≡ get_or greatest 0 0 → option_eq eqb o f ≡ true → drop 1 greatest ≡ greatest_of (drop 1 counts)
oldest_is_first counts greatest o f some kept here first same = grind (arith, nat_tests, first_leaves, eqb, same_option, unwrap_or)

pub oldest_is_other : (counts greatest : List ℕ) (o f : Option ℕ) → 0 < length counts → greatest ≡ greatest_of counts → o ≡ Some (get_or counts 0 0) → is_some f ≡ nat_lt 0 (length greatest) → unwrap_or f 0 ≡ get_or greatest 0 0 → option_eq eqb o f ≡ false → greatest ≡ greatest_of (drop 1 counts)
oldest_is_other counts greatest o f some kept here there first other = grind (arith, nat_tests, nat_lt, was_less, eqb, other_option, lt-ltb)

-- the newest count
pub newest : (o : Option ℕ) (xs : List ℕ) → 0 < length xs → last_or o xs ≡ Some (get_or xs (length xs - 1) 0)
newest o [] some = absurd (omega arith)
newest o (x ∷ []) some = refl
newest o (x ∷ (y ∷ xs)) some =
    let rest = newest (Some x) (y ∷ xs) (omega arith) in
    grind (arith, nat_tests)

-- the greatest counts fall
falling-filter : (p : ℕ → Bool) (l : List ℕ) → IsFalling l → IsFalling (filter p l)
falling-filter p [] h = h
falling-filter p (x ∷ l) h =
    cond_both (p x) (x ∷ filter p l) (filter p l) IsFalling
    (λ _. (All-filter p (λ y. y ≤ x) l h.0, falling-filter p l h.1))
    (λ _. falling-filter p l h.1)

falling-push : (l : List ℕ) (y : ℕ) → IsFalling l → All (λ x. y ≤ x) l → IsFalling (l ++ y ∷ [])
falling-push [] y h all = (All-nil (λ z. z ≤ y), tt)
falling-push (x ∷ l) y h all = (All-push (λ z. z ≤ x) l y h.0 (All-head (λ z. y ≤ z) x l all), falling-push l y h.1 (All-tail (λ z. y ≤ z) x l all))

all_passed : (y : ℕ) (l : List ℕ) → All (λ x. nat_le y x ≡ true) l → All (λ x. y ≤ x) l
all_passed y l h i d in_l = leb-true y (get_or l i d) (h i d in_l)

falling-newest : (l : List ℕ) (y : ℕ) → IsFalling l → IsFalling (with_newest l y)
falling-newest l y h = falling-push (filter (λ x. nat_le y x) l) y (falling-filter (λ x. nat_le y x) l h) (all_passed y (filter (λ x. nat_le y x) l) (filter_passes (λ x. nat_le y x) l))

falling-fold : (l xs : List ℕ) → IsFalling l → IsFalling (fold with_newest l xs)
falling-fold l [] h = h
falling-fold l (x ∷ xs) h = falling-fold (with_newest l x) xs (falling-newest l x h)

pub greatest_fall : (xs : List ℕ) → IsFalling (greatest_of xs)
greatest_fall xs = falling-fold [] xs tt

pub falling-take : (n : ℕ) (l : List ℕ) → IsFalling l → IsFalling (take n l)
falling-take zero l h = tt
falling-take (suc n) [] h = tt
falling-take (suc n) (x ∷ l) h = (All-take (λ y. y ≤ x) n l h.0, falling-take n l h.1)

-- one that is below leaves from the end
pub below_leaves : (y : ℕ) (l : List ℕ) → 0 < length l → get_or l (length l - 1) 0 < y → filter (λ x. nat_le y x) (take (length l - 1) l) ≡ filter (λ x. nat_le y x) l
below_leaves y l some below = grind (arith, nat_tests, common_steps, take_all, append-nil, filter_more, lt-leb)

keep_all : (p : ℕ → Bool) (l : List ℕ) → All (λ x. p x ≡ true) l → filter p l ≡ l
keep_all p [] h = refl
keep_all p (x ∷ l) h =
    ap (λ (b : Bool). cond b (x ∷ filter p l) (filter p l)) (All-head (λ y. p y ≡ true) x l h) ∙ ap (λ (k : List ℕ). x ∷ k) (keep_all p l (All-tail (λ y. p y ≡ true) x l h))

last_least : (l : List ℕ) (i : ℕ) → IsFalling l → i < length l → get_or l (length l - 1) 0 ≤ get_or l i 0
last_least [] i h inside = absurd (omega arith)
last_least (x ∷ []) zero h inside = omega arith
last_least (x ∷ []) (suc i) h inside = absurd (omega arith)
last_least (x ∷ (z ∷ l)) zero h inside = let rest = All-get_or (λ y. y ≤ x) (z ∷ l) (length l) 0 (omega arith) h.0 in let e : suc (suc (length l)) - 1 ≡ suc (length l) = omega arith in rw e rest
last_least (x ∷ (z ∷ l)) (suc i) h inside = grind (arith, last_least (z ∷ l) i h.1)

-- where the last isn't below, none is
pub none_below : (y : ℕ) (l : List ℕ) → IsFalling l → y ≤ get_or l (length l - 1) 0 → filter (λ x. nat_le y x) l ≡ l
none_below y l h last = keep_all (λ x. nat_le y x) l (All-from_get_or (λ x. nat_le y x ≡ true) l 0 (λ i inside. le-leb y (get_or l i 0) (omega (arith, last_least l i h inside))))

-- there are no more of them than counts
length-newest : (l : List ℕ) (y : ℕ) → length (with_newest l y) ≤ length l + 1
length-newest l y = omega (arith, length_push (filter (λ x. nat_le y x) l) y, length-filter (λ x. nat_le y x) l, count_by-le-length (λ x. nat_le y x) l)

length-fold : (l xs : List ℕ) → length (fold with_newest l xs) ≤ length l + length xs
length-fold l [] = omega arith
length-fold l (x ∷ xs) = omega (arith, length-fold (with_newest l x) xs, length-newest l x)

pub length-greatest : (xs : List ℕ) → length (greatest_of xs) ≤ length xs
length-greatest xs = omega (arith, length-fold [] xs)
