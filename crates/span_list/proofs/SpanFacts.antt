-- A span's objects: how many are free, the least of them, and what taking and putting one changes.
use Rattle.std.proofs.Common.{◌≡◌, ◌≢◌, ℕ, zero, suc, ◌+◌, ◌-◌, ◌*◌, ◌/◌, ◌<◌, ◌≤◌, Bool, true, false, not, List, [], ◌∷◌}
use Rattle.std.proofs.Common.{length, get_or, set, count_by, position, Some, None, cond, refl, sym, ◌∙◌, ap, add-zero, zero-add, arith}
use Rattle.std.specs.List.{position_or_len, slice_get}
use Rattle.std.proofs.lemmas.List.Sums.{sum_by-cons, sum_by-set, get_or-le-sum_by}
use Rattle.std.proofs.lemmas.List.Quantifiers.{position-Some}
use Rattle.std.proofs.lemmas.Option.{none-some, slice_get_within, slice_get-get_or, get_or_from_slice_get}
use Rattle.std.proofs.lemmas.List.{length-set, get_or-set_same, get_or-set_other}
use Rattle.std.proofs.lemmas.Bool.{both_ways}
use Rattle.std.proofs.lemmas.Bool.Decides.{nat_tests}
use Rattle.tc_units.specs.declared.units.Addr.{Addr}
use Rattle.span_list.specs.Span.{SpanState, address, first_byte, free_from, least, with_object, IsTaken}

-- each object is free or taken
pub count_both : (xs : List Bool) → count_by (λ b. b) xs + count_by not xs ≡ length xs
count_both [] = refl
count_both (true ∷ xs) =
    omega (arith, count_both xs, sum_by-cons (λ (b : Bool). cond b 1 0) true xs, sum_by-cons (λ (b : Bool). cond (not b) 1 0) true xs)
count_both (false ∷ xs) =
    omega (arith, count_both xs, sum_by-cons (λ (b : Bool). cond b 1 0) false xs, sum_by-cons (λ (b : Bool). cond (not b) 1 0) false xs)

-- where no object is free there is no first one
count_zero : (xs : List Bool) → length xs ≤ position_or_len (λ b. b) xs → count_by (λ b. b) xs ≡ 0
count_zero [] past = refl
count_zero (true ∷ xs) past = absurd (omega arith)
count_zero (false ∷ xs) past =
    omega (arith, count_zero xs (omega arith), sum_by-cons (λ (b : Bool). cond b 1 0) false xs)

pub count_none : (xs : List Bool) → position (λ b. b) xs ≡ None → count_by (λ b. b) xs ≡ 0
count_none xs none = grind (arith, nat_tests, none-some, count_zero)

-- a free object counts
pub count_some : (xs : List Bool) (i : ℕ) → position (λ b. b) xs ≡ Some i → 0 < count_by (λ b. b) xs
count_some xs i at = grind (arith, position-Some (λ (b : Bool). b) xs i true, get_or-le-sum_by (λ (b : Bool). cond {A = ℕ} b 1 0) xs i true)

-- an object that is written: how many are taken
pub taken-set : (xs : List Bool) (i : ℕ) (b d : Bool) → i < length xs → count_by not (set xs i b) + cond (not (get_or xs i d)) 1 0 ≡ count_by not xs + cond (not b) 1 0
taken-set xs i b d less = sum_by-set (λ x. cond (not x) 1 0) xs i b d less

-- and which are free
abbrev pub weight : (Addr → Bool) → Bool → Addr → ℕ
weight test b a = cond b (cond (test a) 1 0) 0

pub free_from-cons : (test : Addr → Bool) (addr : ℕ → Addr) (k : ℕ) (b : Bool) (xs : List Bool)
    → count_by test (free_from addr k (b ∷ xs)) ≡ weight test b (addr k) + count_by test (free_from addr (k + 1) xs)
free_from-cons test addr k true xs = sum_by-cons (λ a. cond (test a) 1 0) (addr k) (free_from addr (k + 1) xs)
free_from-cons test addr k false xs = sym (zero-add (count_by test (free_from addr (k + 1) xs)))

pub free_from-set : (test : Addr → Bool) (addr : ℕ → Addr) (k : ℕ) (xs : List Bool) (i : ℕ) (b d : Bool) (a : Addr) → i < length xs → a ≡ addr (k + i)
    → count_by test (free_from addr k (set xs i b)) + weight test (get_or xs i d) a ≡ count_by test (free_from addr k xs) + weight test b a
free_from-set test addr k [] i b d a less at = absurd (omega arith)
free_from-set test addr k (x ∷ xs) zero b d a less at = grind (arith, add-zero, free_from-cons)
free_from-set test addr k (x ∷ xs) (suc i) b d a less at = grind (arith, free_from-set test addr (k + 1) xs i b d a, free_from-cons)

-- the index of an object at its address, where the distance and the size are read
pub index_found : (s : SpanState) (a : Addr) (i first size : ℕ) → 0 < s.size → a ≡ address s i → first ≡ s.span.first.0 * 8192 → size ≡ s.size → (a.0 - first) / size ≡ i
index_found s a i first size pos at from by = grind (arith)

-- a taken object's place, and what stands there
pub taken_place : (xs : List Bool) (i : ℕ) (d : Bool) → slice_get xs i ≡ Some false → (i < length xs) × (get_or xs i d ≡ false)
taken_place xs i d at = (slice_get_within xs i false at, get_or_from_slice_get xs i false d at)

-- putting the object of an index back: one fewer is taken, and it is free again
pub put_counts : (xs : List Bool) (i : ℕ) → slice_get xs i ≡ Some false → count_by not xs ≡ suc (count_by not (set xs i true))
put_counts xs i at = grind (arith, taken_place xs i true, taken-set xs i true true)

pub put_moves : (test : Addr → Bool) (addr : ℕ → Addr) (xs : List Bool) (i : ℕ) (a : Addr) → slice_get xs i ≡ Some false
    → a ≡ addr i → count_by test (free_from addr 0 (set xs i true)) ≡ count_by test (free_from addr 0 xs) + count_by test (a ∷ [])
put_moves test addr xs i a at same =
    grind (arith, taken_place xs i true, free_from-set test addr 0 xs i true true a, zero-add i, sum_by-cons (λ (t : Addr). cond {A = ℕ} (test t) 1 0) a, test)

-- taking the first free object: one more is taken, and it is free no more
pub take_counts : (xs : List Bool) (i : ℕ) → position (λ b. b) xs ≡ Some i → count_by not (set xs i false) ≡ count_by not xs + 1
take_counts xs i at = grind (arith, position-Some (λ (b : Bool). b) xs i true, taken-set xs i false true)

pub take_moves : (test : Addr → Bool) (addr : ℕ → Addr) (xs : List Bool) (i : ℕ) (a : Addr) → position (λ b. b) xs ≡ Some i
    → a ≡ addr i → count_by test (free_from addr 0 (set xs i false)) + count_by test (a ∷ []) ≡ count_by test (free_from addr 0 xs)
take_moves test addr xs i a at same =
    let first = position-Some (λ (b : Bool). b) xs i true at in
    let moved = free_from-set test addr 0 xs i false true a first.0 (same ∙ ap addr (sym (zero-add i))) in
    let old : weight test (get_or xs i true) a ≡ cond {A = ℕ} (test a) 1 0 = ap (λ (b : Bool). weight test b a) first.1 in
    omega (arith, moved, old, sum_by-cons (λ (t : Addr). cond {A = ℕ} (test t) 1 0) a [])

-- an object that is taken stays so where another one is written, or where it is written as taken
still_taken : (xs : List Bool) (i k : ℕ) (b : Bool) → k ≢ i → slice_get xs k ≡ Some false → slice_get (set xs i b) k ≡ Some false
still_taken xs i k b differ at =
    let there = taken_place xs k true at in
    slice_get-get_or (set xs i b) k true (omega (arith, there.0, length-set xs i b)) ∙ ap (λ v. Some v) (get_or-set_other xs i k b true differ ∙ there.1)

now_taken : (xs : List Bool) (i : ℕ) → i < length xs → slice_get (set xs i false) i ≡ Some false
now_taken xs i less =
    slice_get-get_or (set xs i false) i true (omega (arith, length-set xs i false)) ∙ ap (λ v. Some v) (get_or-set_same xs i false true less)

-- what a take gave can be put back
pub IsTaken-given : (s : SpanState) (i : ℕ) → least s ≡ Some i → IsTaken (with_object s i false) (address s i)
IsTaken-given s i at = grind (arith, position-Some, now_taken)

-- and so can what was taken before it
pub IsTaken-after_take : (s : SpanState) (i : ℕ) (a : Addr) → i < length s.free → IsTaken s a → IsTaken (with_object s i false) a
IsTaken-after_take s i a less t = grind (arith, nat_tests, now_taken, still_taken)

-- what a take gave wasn't taken before it
pub IsTaken-fresh : (s : SpanState) (i : ℕ) → 0 < s.size → least s ≡ Some i → IsTaken s (address s i) → ⊥
IsTaken-fresh s i some at t =
    let first = position-Some (λ (b : Bool). b) s.free i true at in
    let there = taken_place s.free t.index true t.taken in
    let same : i ≡ t.index = sym (index_found s (address s i) i (first_byte s.span) s.size some refl refl refl) ∙ index_found s (address s i) t.index (first_byte s.span) s.size some t.at refl refl in
    both_ways (get_or s.free i true) (ap (λ k. get_or s.free k true) same ∙ there.1) first.1

-- a put leaves the other objects taken
pub IsTaken-after_put : (s : SpanState) (a b : Addr) (i : ℕ) → a ≡ address s i → IsTaken s b → b ≢ a → IsTaken (with_object s i true) b
IsTaken-after_put s a b i at t differ = grind (arith, still_taken)
