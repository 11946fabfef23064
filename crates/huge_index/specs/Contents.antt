-- What an index holds, and how many more keys it has room for.
use Rattle.std.specs.Prelude.{ℕ, ◌≤◌, List, All}
use Rattle.huge_index.specs.declared.key.Key.{Key}
use Rattle.huge_index.specs.Order.{least_of}

pub record Contents : Type 0 where
  pub keys : List Key
  pub spare : ℕ

-- no key has more runs than that which is the least of all
abbrev pub AreCounted : List Key → Type 0
AreCounted keys = All (λ key. key.allocs ≤ (least_of 0 0).allocs) keys
