-- Stretches that are put into a state: how many places are used then, and how many are free.
use Rattle.range_bits.proofs.Common.{nat_tests, sum_by, prefix_len, append_assoc, drop_at, length-take-le, drop-drop, sum_by-append, sum_by-take-drop}
use Rattle.range_bits.proofs.Common.{sum_by-cons, free_from, used_from, used_count, with_places, free_count}
use Rattle.std.proofs.Common.{◌≡◌, ℕ, zero, suc, ◌+◌, ◌<◌, ◌≤◌, Bool, true, not, cond, List, [], ◌∷◌, ◌++◌, length, take, drop, replicate, arith}
use Rattle.std.proofs.lemmas.List.Folds.{sum_by-replicate}
use Rattle.range_bits.proofs.Counts.{free_inside}

-- all free places, and used ones, are the places
abbrev used_one : Bool → ℕ
used_one used = cond used 1 0

abbrev free_one : Bool → ℕ
free_one used = cond (not used) 1 0

one_each : (used : Bool) → used_one used + free_one used ≡ 1
one_each used = grind (arith, nat_tests)

each_once : (row : List Bool) → sum_by used_one row + sum_by free_one row ≡ length row
each_once [] = omega arith
each_once (x ∷ row) = omega (arith, sum_by-cons used_one x row, sum_by-cons free_one x row, one_each x, each_once row)

pub used_and_free : (row : List Bool) → used_count row + free_count row ≡ length row
used_and_free row = each_once row

-- a stretch that came into use is used
used_before : (n : ℕ) (rest : List Bool) → n ≤ prefix_len (λ used. used) (replicate n true ++ rest)
used_before zero rest = omega arith
used_before (suc n) rest = omega (arith, used_before n rest)

pub used_then : (row : List Bool) (start n : ℕ) → 0 < n → n ≤ free_from row start → n ≤ used_from (with_places row start n true) start
used_then row start n some free = grind (arith, nat_tests, free_inside, append_assoc, drop_at, length-take-le, used_before)

-- what is used where a stretch is put into a state
pub state_count : (n : ℕ) (used : Bool) → used_count (replicate n used) ≡ cond used n 0
state_count n used = grind (arith, nat_tests, sum_by-replicate)

pub put_count : (row : List Bool) (start n : ℕ) (used : Bool) → used_count (with_places row start n used) + used_count (take n (drop start row)) ≡ used_count row + cond used n 0
put_count row start n used = grind (arith, nat_tests, drop-drop, sum_by-append, used_one, state_count, sum_by-take-drop)
