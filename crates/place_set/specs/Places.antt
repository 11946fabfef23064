-- The last place before a place that a set has, the first one behind it, and whether a word has one.
use Rattle.std.specs.Prelude.{◌≡◌, ℕ, ◌/◌, ◌<◌, ◌≤◌, Bool, true, false, Option, Some, None}

-- the last place from `low` to `high`
pub record IsLastAt (has : ℕ → Bool) (low high last : ℕ) : Type 0 where
  pub from : low ≤ last
  pub to : last ≤ high
  pub there : has last ≡ true
  pub behind : (k : ℕ) → last < k → k ≤ high → has k ≡ false

-- and where there is none
abbrev pub IsLast : (ℕ → Bool) → ℕ → ℕ → Option ℕ → Type 0
IsLast has low high None = (k : ℕ) → low ≤ k → k ≤ high → has k ≡ false
IsLast has low high (Some last) = IsLastAt has low high last

-- the first place from `low` to `high`
pub record IsFirstAt (has : ℕ → Bool) (low high first : ℕ) : Type 0 where
  pub from : low ≤ first
  pub to : first ≤ high
  pub there : has first ≡ true
  pub before : (k : ℕ) → low ≤ k → k < first → has k ≡ false

-- and where there is none
abbrev pub IsFirst : (ℕ → Bool) → ℕ → ℕ → Option ℕ → Type 0
IsFirst has low high None = (k : ℕ) → low ≤ k → k ≤ high → has k ≡ false
IsFirst has low high (Some first) = IsFirstAt has low high first

-- whether a place of a word is in the set
abbrev pub HasAny : (ℕ → Bool) → ℕ → Bool → Type 0
HasAny has index true = (k : ℕ) × (k / 64 ≡ index) × (has k ≡ true)
HasAny has index false = (k : ℕ) → k / 64 ≡ index → has k ≡ false
