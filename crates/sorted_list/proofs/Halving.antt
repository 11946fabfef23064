-- A search by halving: what a read key tells of all others, and how many reads are made.
use Rattle.std.proofs.Common.{◌≡◌, ℕ, ◌+◌, ◌-◌, ◌*◌, ◌^◌, ◌<◌, ◌≤◌, Bool, true, false, List, length, get_or, ap, ◌∙◌, arith, add-one}
use Rattle.sorted_list.proofs.Common.{nat_tests, IsOrder, IsInOrder}
use Rattle.std.proofs.Math.Nat.{mul-le-mul_left, pow-succ'}

module _ {K : Type 0} (before : K → K → Bool) (total : IsOrder K before) (keys : List K) (order : IsInOrder before keys) where
  -- before a key that comes before another one, all keys do
  pub all_before : (key : K) (middle : ℕ) → middle < length keys → ((d : K) → before (get_or keys middle d) key ≡ true) → (i : ℕ) (d : K) → i < middle + 1 → before (get_or keys i d) key ≡ true
  all_before key middle inside here i d l = grind (arith, nat_tests)

  -- behind a key that doesn't, none does
  pub none_behind : (key : K) (middle : ℕ) → ((d : K) → before (get_or keys middle d) key ≡ false) → (i : ℕ) (d : K) → middle ≤ i → i < length keys → before (get_or keys i d) key ≡ false
  none_behind key middle here i d from inside = grind (arith, nat_tests)

-- one read more halves what is left
pub halved : (k size half n : ℕ) → 0 < size → half + half ≤ size → 2 ^ k * size ≤ n → (2 ^ (k + 1) * half ≤ n) × (2 ^ (k + 1) ≤ 2 * n + 1)
halved k size half n some split most =
    let p : ℕ = 2 ^ k in
    let twice : 2 ^ (k + 1) ≡ 2 * p = ap (λ (e : ℕ). 2 ^ e) (add-one k) ∙ pow-succ' 2 k in
    let both : 2 ^ (k + 1) * half ≡ 2 * p * half = ap (λ (t : ℕ). t * half) twice in
    let less : p * (half + half) ≤ p * size = mul-le-mul_left p split in
    grind (arith, nat_tests, mul-le-mul_left)

-- the same for counters
pub halved_steps : (before after start size half n : ℕ) → start ≤ before → after ≡ before + 1 → 0 < size → half + half ≤ size → 2 ^ (before - start) * size ≤ n → (2 ^ (after - start) * half ≤ n) × (2 ^ (after - start) ≤ 2 * n + 1)
halved_steps before after start size half n order e some split most =
    let k : ℕ = before - start in
    grind (arith, halved k size half n some split most)
