-- What the live samples stand for is within what was asked for, and that within what calls may ask for.
use Rattle.std.proofs.Common.{refl, ◌≡◌, ℕ, ◌+◌, ◌*◌, ◌/◌, ◌<◌, ◌≤◌, Bool, not, List, [], ◌∷◌, ◌++◌, length, slice_index, slice_set, arith}
use Rattle.std.specs.List.{filter, sum_by, sum}
use Rattle.std.proofs.lemmas.Bool.{cases_Bool}
use Rattle.std.proofs.lemmas.List.Sums.{sum_by-cons, sum_by-append, sum_by-set, sum_by-le-sum_by}
use Rattle.std.proofs.lemmas.List.Filters.{sum_by-filter_both}
use Rattle.std.proofs.lemmas.Nat.{div-add-mod', le-div}
use Rattle.tc_model.specs.Blocks.{frees}
use Rattle.tc_model.specs.declared.calls.Call.{Call}
use Rattle.tc_model.specs.declared.calls.Call.TheVariants.{Malloc}
use Rattle.tc_model.specs.declared.answers.Answer.{Answer}
use Rattle.tc_model.specs.declared.answers.Answer.TheVariants.{Block}
use Rattle.heap_sample.specs.declared.sample.Sample.{Sample}
use Rattle.heap_sample.specs.Samples.{bytes_asked, sample_under, weight_of, weight_in, AreSame, IsFresh, most_size}

-- the whole steps in a sum
abbrev pub covered : ℕ → ℕ → ℕ
covered step n = n / step * step

pub add_mul : (a b c : ℕ) → (a + b) * c ≡ a * c + b * c
add_mul a b c = omega arith

-- they are at most the sum, and rise by the weight of a sample
within : (step n : ℕ) → covered step n ≤ n
within step n = omega (arith, div-add-mod' n step)

risen : (step before add : ℕ) → 0 < step → covered step before + weight_of step before (before + add) ≡ covered step (before + add)
risen step before add some = grind (arith, le-div (before / step) (before + add) step some, within step before, add_mul (before / step))

-- with a sum that rises in a list of them
module _ (step : ℕ) (asked : List ℕ) (t add : ℕ) (some : 0 < step) (inside : t < length asked) where
  abbrev pub after : List ℕ
  after = slice_set asked t (slice_index asked t + add)

  pub covers : sum_by (covered step) asked + weight_of step (slice_index asked t) (slice_index asked t + add) ≡ sum_by (covered step) after
  covers = omega (arith, sum_by-set (covered step) asked t (slice_index asked t + add) 0 inside, risen step (slice_index asked t) add some)

  pub sums : sum after ≡ sum asked + add
  sums = omega (arith, sum_by-set (λ (n : ℕ). n) asked t (slice_index asked t + add) 0 inside)

  pub at_most : sum_by (covered step) after ≤ sum after
  at_most = sum_by-le-sum_by (covered step) (λ (n : ℕ). n) after (λ n. within step n)

-- what a call asks for is at most what a request may
pub few_bytes : (live : List (ℕ × Sample)) (call : Call) (answer : Answer) → IsFresh live call → bytes_asked call answer ≤ most_size
few_bytes live (Malloc l n) (Block a len) fresh = fresh.1
few_bytes live call answer fresh = omega arith

-- at most one sample comes, of at most its weight
pub gives : (step before : ℕ) (call : Call) (answer : Answer)
    → (length (sample_under step before call answer) ≤ 1) × (weight_in (sample_under step before call answer) ≤ weight_of step before (before + bytes_asked call answer))
gives step before (Malloc l n) (Block a len) = grind (arith, cases_Bool)
gives step before call answer = (omega arith, omega arith)

-- a sum over a filter is at most that over all
filtered : {X : Type 0} (f : X → ℕ) (q : X → Bool) (xs : List X) → sum_by f (filter q xs) ≤ sum_by f xs
filtered f q xs = omega (arith, sum_by-filter_both q (λ x. not (q x)) (λ x. refl) f xs)

-- a length as a sum
pub counts : {X : Type 0} (xs : List X) → sum_by (λ x. 1) xs ≡ length xs
counts [] = refl
counts (x ∷ xs) = omega (arith, sum_by-cons (λ y. 1) x xs, counts xs)

-- The samples behind a call: no more than the calls, and no heavier than the sums.
module _ (step : ℕ) (asked : List ℕ) (t : ℕ) (call : Call) (answer : Answer) (old new : List (ℕ × Sample)) (some : 0 < step) (inside : t < length asked)
    (same : AreSame new (sample_under step (slice_index asked t) call answer ++ filter (λ s. not (frees s.0 call)) old)) where
  abbrev came : List (ℕ × Sample)
  came = sample_under step (slice_index asked t) call answer

  abbrev left : List (ℕ × Sample)
  left = filter (λ s. not (frees s.0 call)) old

  pub few : length new ≤ length old + 1
  few = grind (arith, sum_by-append, filtered, counts new, counts old, counts came, gives step (slice_index asked t) call answer)

  pub light : weight_in old ≤ sum_by (covered step) asked → weight_in new ≤ sum_by (covered step) (after step asked t (bytes_asked call answer) some inside)
  light was = grind (arith, sum_by-append, filtered, gives step (slice_index asked t) call answer, covers step asked t (bytes_asked call answer) some inside)
