-- Blocks that are apart, in the order of their addresses.
use Rattle.std.specs.Prelude.{ℕ, ◌+◌, ◌<◌, ◌≤◌, List, [], ◌∷◌, map, All}
use Rattle.tc_model.specs.Blocks.{Extent}

-- each block has a byte, and ends by where each later one begins
abbrev pub IsSpread : List Extent → Type 0
IsSpread [] = Unit {0}
IsSpread (b ∷ bs) = (0 < b.len) × All (λ (c : Extent). b.addr + b.len ≤ c.addr) bs × IsSpread bs

-- blocks as entries of a map from address to bytes
abbrev pub extents_of : List (ℕ × ℕ) → List Extent
extents_of entries = map (λ (e : ℕ × ℕ). record { addr = e.0; len = e.1 }) entries
