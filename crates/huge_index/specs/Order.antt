-- The order in which hugepages are preferred.
use Rattle.std.specs.Prelude.{◌≡◌, ℕ, ◌+◌, ◌-◌, ◌*◌, ◌≤◌, Bool, false, nat_lt, List, All, Contains}
use Rattle.sorted_list.specs.Order.{first_by}
use Rattle.huge_index.specs.declared.key.Key.{Key}

-- by least tier, then by shortest longest range, then by most runs, then by least number
abbrev pub comes_before : Key → Key → Bool
comes_before a b = first_by a.tier b.tier (first_by a.longest b.longest (first_by b.allocs a.allocs (nat_lt a.huge.0 b.huge.0)))

-- the measures as one number, those that decide first before the rest
abbrev pub rank : Key → ℕ
rank key = (key.tier * 4294967296 + key.longest) * 18446744073709551616 + ((4294967295 - key.allocs) * 4294967296 + key.huge.0)

-- the key before which no key of a tier comes that has a longest range of at least n pages
abbrev pub least_of : ℕ → ℕ → Key
least_of tier n = record { tier = tier; longest = n; allocs = 4294967295; huge = record { 0 = 0 } }

-- some key
abbrev pub sample : Key
sample = record { tier = 0; longest = 0; allocs = 0; huge = record { 0 = 0 } }

-- whether a key is of a tier, with a free range of at least n pages
abbrev pub Serves : ℕ → ℕ → Key → Type 0
Serves tier n key = (key.tier ≡ tier) × (n ≤ key.longest)

-- a key that serves, before which none comes that serves too
pub record IsFirstOf (keys : List Key) (tier n : ℕ) (key : Key) : Type 0 where
  pub held : Contains keys key
  pub serves : Serves tier n key
  pub first : All (λ other. Serves tier n other → comes_before other key ≡ false) keys
