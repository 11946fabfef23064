-- What the filler keeps beside the measures: each hugepage of the arena in two orders, and the count of donated free pages. The
-- order of giving follows when it is asked for.
use Rattle.std.specs.Prelude.{◌≡◌, ℕ, ◌<◌, ◌≤◌, Bool, true, false, ◌==◌, nat_lt, List, length, Option, Some, None, if◌then◌else◌}
use Rattle.std.specs.List.{enumerate_from, slice_index_or}
use Rattle.sorted_list.specs.Order.{first_by}
use Rattle.sorted_list.specs.Rows.{IsIndexOf}
use Rattle.huge_index.specs.declared.key.Key.{Key}
use Rattle.huge_filler.specs.declared.giver.Giver.{Giver}
use Rattle.huge_filler.specs.declared.measures.Measures.{Measures}
use Rattle.huge_filler.specs.Measures.{measures_at, donated_free}

-- the key of a hugepage in the order of preference; one that isn't the filler's is behind all tiers that serve
abbrev pub key_of : ℕ → Option Measures → Key
key_of h None = record { tier = 3; longest = 0; allocs = 0; huge = record { 0 = h } }
key_of h (Some its) = record { tier = its.tier; longest = its.longest; allocs = its.allocs; huge = record { 0 = h } }

-- those that have pages to give come first, by fewest used pages, then by greatest number
abbrev pub rank : Bool → ℕ
rank spent = if spent then 1 else 0

abbrev pub comes_before : Giver → Giver → Bool
comes_before a b = first_by (rank a.spent) (rank b.spent) (first_by a.used b.used (nat_lt b.huge.0 a.huge.0))

abbrev pub sample : Giver
sample = record { spent = false; used = 0; huge = record { 0 = 0 } }

-- its key in that order; one that isn't the filler's has none to give, and stands by its number, so that the least come first
abbrev pub giver_of : ℕ → Option Measures → Giver
giver_of h None = record { spent = true; used = h; huge = record { 0 = h } }
giver_of h (Some its) = record { spent = its.spare == 0; used = its.used; huge = record { 0 = h } }

-- a list that has one key for each hugepage
abbrev pub Lists : {K : Type 0} → (ℕ → Option Measures → K) → List (Option Measures) → List K → Type 0
Lists {K} key rows keys = IsIndexOf (λ p. key p.0 p.1) (enumerate_from 1 rows) keys

-- what hugepages measure, and the places where the order of giving doesn't follow yet
pub record Giving : Type 0 where
  pub rows : List (Option Measures)
  pub stale : List Bool

-- A list for the order of giving was told what hugepages measured, and they measure the same still but where they are stale.
pub record IsFollowed (rows told : List (Option Measures)) (order : List Giver) (stale : List Bool) : Type 0 where
  pub arena : length rows ≤ 4096
  pub size : length told ≡ length rows
  pub givers : Lists giver_of told order
  pub room : length rows < length stale
  pub inside : (k : ℕ) → slice_index_or stale k false ≡ true → k < length rows
  pub current : (k : ℕ) → slice_index_or stale k false ≡ false → slice_index_or told k None ≡ slice_index_or rows k None

pub record IsKept (rows : List (Option Measures)) (index : List Key) (donated : ℕ) : Type 0 where
  pub arena : length rows ≤ 4096
  pub tiers : (h : ℕ) (its : Measures) → measures_at rows h ≡ Some its → its.tier ≤ 2
  pub keys : Lists key_of rows index
  pub counted : donated ≡ donated_free rows
