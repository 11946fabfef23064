-- Orders of keys as tests, and lists in such an order.
use Rattle.std.specs.Prelude.{◌≡◌, ℕ, ◌<◌, Bool, true, false, ◌==◌, ◌||◌, ◌&&◌, nat_lt, List, length, All, Contains}
use Rattle.std.specs.List.{slice_index_or}

-- of two pairs of measures and what comes after them: the less measure first, and of equal ones what comes after decides
abbrev pub first_by : ℕ → ℕ → Bool → Bool
first_by x y rest = nat_lt x y || (x == y && rest)

-- Of two keys one at most comes before the other, and where none does they are one. What a later key comes before, an earlier
-- one comes before too.
pub record IsOrder (K : Type 0) (before : K → K → Bool) : Type 0 where
  pub one_way : (a b : K) → before a b ≡ true → before b a ≡ false
  pub passes : (a b c : K) → before b a ≡ false → before b c ≡ true → before a c ≡ true
  pub same : (a b : K) → before a b ≡ false → before b a ≡ false → a ≡ b

-- no key comes before an earlier one
abbrev pub IsInOrder : {K : Type 0} → (K → K → Bool) → List K → Type 0
IsInOrder {K} before keys = (i j : ℕ) (d : K) → i < j → j < length keys → before (slice_index_or keys j d) (slice_index_or keys i d) ≡ false

-- the first of the keys that don't come before `from`
pub record IsFirstFrom {K : Type 0} (before : K → K → Bool) (keys : List K) (from key : K) : Type 0 where
  pub held : Contains keys key
  pub behind : before key from ≡ false
  pub first : All (λ other. before other from ≡ false → before other key ≡ false) keys

-- the first of the keys, and the last
pub record IsFirst {K : Type 0} (before : K → K → Bool) (keys : List K) (key : K) : Type 0 where
  pub held : Contains keys key
  pub first : All (λ other. before other key ≡ false) keys

pub record IsLast {K : Type 0} (before : K → K → Bool) (keys : List K) (key : K) : Type 0 where
  pub held : Contains keys key
  pub last : All (λ other. before key other ≡ false) keys
