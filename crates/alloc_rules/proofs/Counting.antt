-- Objects and spans, as the laws of shards count them and as the books do.
use Rattle.std.proofs.Common.{◌≡◌, ℕ, ◌+◌, ◌-◌, Bool, cond, eqb, List, [], ◌∷◌, ◌++◌, length, take, drop, reverse, count_by, refl, sym, ap, ◌∙◌, arith}
use Rattle.alloc_rules.proofs.Common.{take-append-drop, reverse-append, sum_by-cons, Addr, Run, SpanRef, last_first, without_last, found_at, begun_at, bit}
use Rattle.alloc_rules.proofs.Common.{first_byte, run_of, same_run, same_span, runs_like, objects_at, spans_like, spans_at, Counts, counts_append, like}
use Rattle.alloc_rules.proofs.Common.{like_span, starting_span}

pub at_object : (n : ℕ) → Counts (objects_at n) (λ (x : Addr). bit (eqb x.0 n))
at_object n = record { none = refl; more = λ x xs. refl }

-- a count of those that pass a test, as one of these numbers
pub bit_cond : (b : Bool) → cond {A = ℕ} b 1 0 ≡ bit b
bit_cond b = grind arith

passing : {X : Type 0} {f : List X → ℕ} (test : X → Bool) → Counts f (λ (x : X). bit (test x)) → (xs : List X) → count_by test xs ≡ f xs
passing test c [] = sym c.none
passing {X} test c (x ∷ xs) = let g : X → ℕ = λ y. cond {A = ℕ} (test y) 1 0 in omega (arith, sum_by-cons g x xs, c.more x xs, bit_cond (test x), passing test c xs)

pub objects_count : (n : ℕ) (xs : List Addr) → found_at n xs ≡ objects_at n xs
objects_count n xs = passing (λ (x : Addr). eqb x.0 n) (at_object n) xs

pub runs_count : (r : Run) (xs : List Run) → count_by (λ (x : Run). same_run x r) xs ≡ runs_like r xs
runs_count r xs = passing (λ (x : Run). same_run x r) (like r) xs

pub spans_count : (s : SpanRef) (xs : List SpanRef) → count_by (λ (x : SpanRef). same_span x s) xs ≡ spans_like s xs
spans_count s xs = passing (λ (x : SpanRef). same_span x s) (like_span s) xs

pub begun_count : (n : ℕ) (xs : List SpanRef) → begun_at n xs ≡ spans_at n xs
begun_count n xs = passing (λ (x : SpanRef). eqb (first_byte (run_of x)) n) (starting_span n) xs

-- objects in lists that are joined, cut and turned round
pub objects_append : (n : ℕ) (xs ys : List Addr) → objects_at n (xs ++ ys) ≡ objects_at n xs + objects_at n ys
objects_append n xs ys = counts_append (at_object n) xs ys

pub objects_cut : (n k : ℕ) (xs : List Addr) → objects_at n (take k xs) + objects_at n (drop k xs) ≡ objects_at n xs
objects_cut n k xs = sym (objects_append n (take k xs) (drop k xs)) ∙ ap (objects_at n) (take-append-drop k xs)

pub objects_reverse : (n : ℕ) (xs : List Addr) → objects_at n (reverse xs) ≡ objects_at n xs
objects_reverse n [] = refl
objects_reverse n (x ∷ xs) = omega (arith, ap (objects_at n) (reverse-append (x ∷ []) xs), objects_append n (reverse xs) (x ∷ []), objects_reverse n xs)

pub objects_last : (n k : ℕ) (xs : List Addr) → objects_at n (without_last k xs) + objects_at n (last_first k xs) ≡ objects_at n xs
objects_last n k xs = omega (arith, objects_reverse n (drop (length xs - k) xs), objects_cut n (length xs - k) xs)
