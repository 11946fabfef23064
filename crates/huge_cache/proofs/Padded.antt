-- Rows with used places behind the arena's: what each question and change makes of the arena's part.
use Rattle.std.proofs.Common.{◌≡◌, ℕ, zero, suc, ◌+◌, ◌-◌, ◌<◌, ◌≤◌, ◌&&◌, Bool, true, false, not, cond, nat_le, nat_lt, List, [], ◌∷◌, ◌++◌, length, get_or, set, take, Option, IfSome}
use Rattle.std.proofs.Common.{drop, replicate, filter, All, refl, sym, ap, ◌∙◌, arith, add-one}
use Rattle.huge_cache.proofs.Common.{nat_tests, prefix_len, range_with_len, cases_lt, and_left, not_from_true, append_assoc, append-nil, length-append}
use Rattle.huge_cache.proofs.Common.{length-replicate, length-take-le, take-append-le, take_at, take-take, drop-take, drop-append-le, drop_all, take-replicate}
use Rattle.huge_cache.proofs.Common.{replicate-append-replicate, get_or_append_left, get_or-append_right, get_or-replicate, get_or-take, set_split}
use Rattle.huge_cache.proofs.Common.{count_by-le-length, filter-append, All-weaker, All-filter, IsLastRange, IsRange, free_from, used_from, used_count, places, begins_range}
use Rattle.huge_cache.proofs.Common.{first_least, best, with_places, range-within, filter-agree, filter-none, first_least-agree, range-append}
use Rattle.std.proofs.lemmas.List.Sums.{sum_by-cons}
use Rattle.huge_cache.proofs.Common.{length-with_places, put_count, IsPadded, FreeRange, get_or_past, false≢true, get_or-with_places, length-drop, get_or-drop}
use Rattle.std.proofs.lemmas.List.{ext_get_or}
use Rattle.range_bits.proofs.BitFacts.{is_between}

-- used places behind a row
abbrev pub pad : ℕ → List Bool
pad k = replicate k true

pub padded_by : (huge : ℕ) (row v : List Bool) (k : ℕ) → length v ≡ huge → row ≡ v ++ pad k → IsPadded huge row × (take huge row ≡ v)
padded_by huge row v k size is = grind (arith, nat_tests, length-replicate, length-append, take_at, pad)

pub front_length : (huge : ℕ) (row : List Bool) → IsPadded huge row → length (take huge row) ≡ huge
front_length huge row h = length-take-le huge row h.within

-- free stretches
stretch_end : (k : ℕ) → prefix_len not (pad k) ≡ 0
stretch_end k = grind (arith, nat_tests)

stretch : (v : List Bool) (k : ℕ) → prefix_len not (v ++ pad k) ≡ prefix_len not v
stretch [] k = stretch_end k
stretch (true ∷ v) k = refl
stretch (false ∷ v) k = ap (λ (n : ℕ). 1 + n) (stretch v k)

pub free_from-padded : (v : List Bool) (k p : ℕ) → p ≤ length v → free_from (v ++ pad k) p ≡ free_from v p
free_from-padded v k p inside = ap (prefix_len not) (drop-append-le p v (pad k) inside) ∙ stretch (drop p v) k

-- the best range
begins-padded : (v : List Bool) (k p : ℕ) → p < length v → begins_range (v ++ pad k) p ≡ begins_range v p
begins-padded v k p inside = grind (arith, nat_tests, pad, get_or_append_left)

begins-behind : (v : List Bool) (k p : ℕ) → length v ≤ p → p < length v + k → begins_range (v ++ pad k) p ≡ false
begins-behind v k p behind inside = grind (arith, nat_tests, pad, get_or-append_right, get_or-replicate, and_left, not_from_true)

abbrev fits : List Bool → ℕ → ℕ → Bool
fits row n place = begins_range row place && nat_le n (free_from row place)

abbrev nearer : List Bool → ℕ → ℕ → Bool
nearer row a b = nat_lt (free_from row a) (free_from row b)

found-padded : (v : List Bool) (k n : ℕ) → filter (fits (v ++ pad k) n) (places (v ++ pad k)) ≡ filter (fits v n) (places v)
found-padded v k n =
    let m : ℕ = length v in
    let inside : All (λ p. fits (v ++ pad k) n p ≡ fits v n p) (range_with_len 0 m) =
    grind (arith, nat_tests, nat_le, free_from, begins-padded, begins_range, free_from-padded, range_with_len, range-within) in
    let behind : All (λ p. fits (v ++ pad k) n p ≡ false) (range_with_len m k) =
    All-weaker (λ p. (m ≤ p) × (p < m + k)) (λ p. fits (v ++ pad k) n p ≡ false)
    (λ p h. and_left _ _ (begins-behind v k p h.0 h.1))
    (range_with_len m k) (range-within m k) in
    ap (λ (l : ℕ). filter (fits (v ++ pad k) n) (range_with_len 0 l)) (omega (arith, length-append v (pad k), length-replicate k true))
    ∙ ap (filter (fits (v ++ pad k) n)) (range-append 0 m k)
    ∙ filter-append (fits (v ++ pad k) n) (range_with_len 0 m) (range_with_len (0 + m) k)
    ∙ ap (λ (a : ℕ). filter (fits (v ++ pad k) n) (range_with_len 0 m) ++ filter (fits (v ++ pad k) n) (range_with_len a k)) (omega arith)
    ∙ ap (λ (l : List ℕ). filter (fits (v ++ pad k) n) (range_with_len 0 m) ++ l) (filter-none (fits (v ++ pad k) n) (range_with_len m k) behind)
    ∙ append-nil (filter (fits (v ++ pad k) n) (range_with_len 0 m))
    ∙ filter-agree (fits (v ++ pad k) n) (fits v n) (range_with_len 0 m) inside

pub best-padded : (v : List Bool) (k n : ℕ) → best (v ++ pad k) n ≡ best v n
best-padded v k n =
    let within : All (λ p. p < length v) (filter (fits v n) (places v)) =
    All-filter (fits v n) (λ p. p < length v) (places v) (All-weaker (λ p. (0 ≤ p) × (p < 0 + length v)) (λ p. p < length v) (λ p h. omega (arith, h.1)) (places v) (range-within 0 (length v))) in
    ap (first_least (nearer (v ++ pad k))) (found-padded v k n)
    ∙ first_least-agree (λ p. p < length v) (nearer (v ++ pad k)) (nearer v) (filter (fits v n) (places v))
    (λ a b in_a in_b. ap (λ (l : ℕ). nat_lt l (free_from (v ++ pad k) b)) (free_from-padded v k a (omega arith)) ∙ ap (nat_lt (free_from v a)) (free_from-padded v k b (omega arith)))
    within

-- changes
pub with_places-padded : (v : List Bool) (k start n : ℕ) (used : Bool) → start + n ≤ length v → with_places (v ++ pad k) start n used ≡ with_places v start n used ++ pad k
with_places-padded v k start n used inside = grind (arith, nat_tests, pad, append_assoc, drop-append-le, take-append-le)

pub one_place : (v : List Bool) (p : ℕ) (used : Bool) → p < length v → with_places v p 1 used ≡ set v p used
one_place v p used inside = grind (arith, nat_tests, append_assoc, add-one, set_split)

-- one place more
pub place_more : (row : List Bool) (start n : ℕ) (used : Bool) → start + n < length row → with_places row start (n + 1) used ≡ set (with_places row start n used) (start + n) used
place_more row start n used inside =
    let part = with_places row start n used in
    let size = length-with_places row start n used (omega arith) in
    let sizes : length (with_places row start (n + 1) used) ≡ length (with_places part (start + n) 1 used) =
    length-with_places row start (n + 1) used (omega arith) ∙ sym (length-with_places part (start + n) 1 used (omega arith) ∙ size) in
    let again : with_places row start (n + 1) used ≡ with_places part (start + n) 1 used = ext_get_or false _ _ sizes (λ k l. (
    let one = get_or-with_places row start (n + 1) used k false (omega arith) in
    let two = get_or-with_places part (start + n) 1 used k false (omega arith) in
    let three = get_or-with_places row start n used k false (omega arith) in
    grind (arith, nat_tests, one, two, three, is_between))) in
    again ∙ one_place part (start + n) used (omega arith)

used_next : (row : List Bool) (n : ℕ) → n ≤ prefix_len (λ used. used) row → n < length row → get_or row n true ≡ true → n + 1 ≤ prefix_len (λ used. used) row
used_next [] n all inside here = absurd (omega arith)
used_next (true ∷ row) zero all inside here = grind (arith, nat_tests, prefix_len)
used_next (false ∷ row) zero all inside here = absurd (false≢true here)
used_next (true ∷ row) (suc n) all inside here = grind (arith, nat_tests, prefix_len, used_next row n)
used_next (false ∷ row) (suc n) all inside here = grind (arith, nat_tests, prefix_len)

pub used_more : (row : List Bool) (start n : ℕ) → n ≤ used_from row start → start + n < length row → get_or row (start + n) true ≡ true → n + 1 ≤ used_from row start
used_more row start n all inside here = used_next (drop start row) n all (omega (arith, length-drop start row)) (get_or-drop start row n true ∙ here)

pub all_used : (row : List Bool) (n : ℕ) → n ≤ prefix_len (λ used. used) row → used_count (take n row) ≡ n
all_used row zero all = refl
all_used [] (suc n) all = grind (arith, nat_tests, prefix_len)
all_used (true ∷ row) (suc n) all = grind (arith, all_used row n, sum_by-cons (λ (used : Bool). cond used 1 0) true (take n row))
all_used (false ∷ row) (suc n) all = grind (arith, nat_tests, prefix_len)

-- no more are used than there are
pub few : (huge : ℕ) (row : List Bool) → IsPadded huge row → used_count (take huge row) ≤ huge
few huge row h = omega (arith, count_by-le-length (λ used. used) (take huge row), front_length huge row h)

-- what a change makes of a padded row, and of how many places of its front are used
pub record Changed (huge : ℕ) (row new : List Bool) (start n : ℕ) (used : Bool) : Type 0 where
  pub padded : IsPadded huge new
  pub front : take huge new ≡ with_places (take huge row) start n used
  pub was : used_count (take n (drop start row)) ≤ used_count (take huge row)
  pub count : used_count (take huge new) ≡ used_count (take huge row) - used_count (take n (drop start row)) + cond used n 0
  pub few : used_count (take huge new) ≤ huge

pub changed : {huge : ℕ} {row : List Bool} (new : List Bool) (start n : ℕ) (used : Bool) → IsPadded huge row → new ≡ with_places row start n used → start + n ≤ length (take huge row) → Changed huge row new start n used
changed {huge} {row} new start n used h is inside =
    let v : List Bool = take huge row in
    let k : ℕ = length row - huge in
    let size = front_length huge row h in
    let whole : new ≡ with_places v start n used ++ pad k = is ∙ ap (λ (r : List Bool). with_places r start n used) h.padded ∙ with_places-padded v k start n used (omega arith) in
    let got = padded_by huge new (with_places v start n used) k (length-with_places v start n used (omega arith) ∙ size) whole in
    let at : start + (huge - start) ≡ huge = omega arith in
    let part : take n (drop start v) ≡ take n (drop start row) = ap (λ (m : ℕ). take n (drop start (take m row))) (sym at) ∙ ap (take n) (drop-take start (huge - start) row) ∙ take-take n (huge - start) (drop start row) (omega arith) in
    let off = put_count v start n false in
    grind (arith, nat_tests, used_count, put_count, few)

-- the same questions of a padded row
pub best-front : (huge : ℕ) (row : List Bool) (n : ℕ) → IsPadded huge row → best row n ≡ best (take huge row) n
best-front huge row n h = ap (λ (r : List Bool). best r n) h.padded ∙ best-padded (take huge row) (length row - huge) n

pub place-front : (huge : ℕ) (row : List Bool) (p : ℕ) (d : Bool) → IsPadded huge row → p < huge → get_or row p d ≡ get_or (take huge row) p d
place-front huge row p d h inside = sym (get_or-take huge row p d inside)

-- the last free range of a padded row is that of its front
padding : (huge : ℕ) (row : List Bool) (p : ℕ) → IsPadded huge row → huge ≤ p → p < length row → get_or row p true ≡ true
padding huge row p h past inside =
    ap (λ (r : List Bool). get_or r p true) h.padded
    ∙ get_or-append_right (take huge row) (pad (length row - huge)) huge p true (front_length huge row h) past
    ∙ get_or-replicate (length row - huge) (p - huge) true true (omega arith)

front_end : (len : ℕ) (row : List Bool) (range : FreeRange) → IsPadded len row → IsRange row range → range.start + range.len ≤ len
front_end len row range h is = grind (arith, nat_tests, padding)

pub last-front : (len : ℕ) (row : List Bool) (o : Option FreeRange) → IsPadded len row → (len ≡ 0 → ⊥) → IfSome o (IsLastRange row (len - 1)) →
    IfSome o (IsLastRange (take len row) (length (take len row) - 1))
last-front len row o h some is = grind (arith, front_length, front_end, place-front)

pub none-front : (len : ℕ) (row : List Bool) → IsPadded len row → ((p : ℕ) → p < len → get_or row p true ≡ true) → (p : ℕ) → get_or (take len row) p true ≡ true
none-front len row h none p = grind (arith, nat_tests, front_length, place-front, cases_lt, get_or_past)

-- a row at its opening: the places behind its own become used, or all
pub opened : (len n first : ℕ) (used : Bool) → len ≤ n → first ≡ len - cond used len 0 → with_places (replicate n false) first (n - first) true ≡ replicate len used ++ pad (n - len)
opened len n first used order is = grind (arith, nat_tests, drop_all, length-replicate, append-nil, replicate-append-replicate, take-replicate, append_assoc)

-- what is used in the arena's part
longer : (xs ys : List Bool) → prefix_len (λ used. used) xs ≤ prefix_len (λ used. used) (xs ++ ys)
longer [] ys = omega arith
longer (true ∷ xs) ys = omega (arith, longer xs ys)
longer (false ∷ xs) ys = omega arith

pub used-front : (huge : ℕ) (row : List Bool) (p : ℕ) → IsPadded huge row → used_from (take huge row) p ≤ used_from row p
used-front huge row p h = grind (arith, nat_tests, front_length, cases_lt, drop_all, longer, pad, drop-append-le)
