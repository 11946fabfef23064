-- How a sorted list keeps its keys: each slot stands once in the order, and the keys in the first slots are sorted.
use Rattle.std.specs.Prelude.{◌≡◌, ℕ, ◌≤◌, Bool, ◌==◌, nat_lt, List, length, count_by, if◌then◌else◌}
use Rattle.sorted_list.specs.Contents.{keys_of}
use Rattle.sorted_list.specs.Order.{IsInOrder}

-- how often a slot stands in an order
abbrev pub times : ℕ → List ℕ → ℕ
times slot order = count_by (λ s. s == slot) order

pub record IsKept {K : Type 0} (before : K → K → Bool) (sample : K) (slots : List K) (order : List ℕ) (len : ℕ) : Type 0 where
  pub once : (s : ℕ) → times s order ≡ (if nat_lt s (length slots) then 1 else 0)
  pub sorted : IsInOrder before (keys_of sample slots order len)
  pub within : len ≤ length order
  pub size : length slots ≡ length order
  pub most : length order ≤ 65536
