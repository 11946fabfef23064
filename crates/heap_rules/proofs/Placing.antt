-- Where runs are placed, computed from the definitions and worked out by hand.
use Rattle.std.proofs.Common.{◌≡◌, [], ◌∷◌, refl}
use Rattle.heap_rules.proofs.Rows.{New, Free, limits, summary, sums}

-- the last hugepage of a run is donated, and serves a small run
tail_is_donated : summary (limits 2 8 512 8192 0) (New 257 ∷ New 1 ∷ []) ≡ sums (256 ∷ 513 ∷ []) 258 512
tail_is_donated = refl

-- the tightest range is taken, and not the first that fits
tightest_range : summary (limits 4 8 512 8192 0) (New 253 ∷ New 254 ∷ New 2 ∷ []) ≡ sums (256 ∷ 512 ∷ 766 ∷ []) 509 512
tightest_range = refl

-- of two with as long a range, the one of more runs
most_runs : summary (limits 4 8 512 8192 0) (New 254 ∷ New 127 ∷ New 127 ∷ New 2 ∷ []) ≡ sums (256 ∷ 512 ∷ 639 ∷ 766 ∷ []) 510 512
most_runs = refl

-- a full arena has no place, and neither has a run longer than the arena
full_arena : summary (limits 1 8 512 8192 0) (New 256 ∷ New 1 ∷ []) ≡ sums (256 ∷ 0 ∷ []) 256 256
full_arena = refl

whole_arena : summary (limits 4 8 512 8192 0) (New 1024 ∷ []) ≡ sums (256 ∷ []) 1024 1024
whole_arena = refl

longer_than_arena : summary (limits 4 8 512 8192 0) (New 1025 ∷ []) ≡ sums (0 ∷ []) 0 0
longer_than_arena = refl

-- two runs share a region
in_a_region : summary (limits 8 8 4 0 0) (New 300 ∷ New 300 ∷ []) ≡ sums (256 ∷ 556 ∷ []) 600 768
in_a_region = refl

-- a region without used pages ends, with its hugepages' backing
region_ends : summary (limits 8 8 3 0 0) (New 300 ∷ Free 0 ∷ New 768 ∷ []) ≡ sums (256 ∷ 256 ∷ []) 768 768
region_ends = refl

wide_region_ends : summary (limits 12 8 8 0 0) (New 300 ∷ New 300 ∷ Free 0 ∷ Free 1 ∷ New 256 ∷ []) ≡ sums (256 ∷ 556 ∷ 256 ∷ []) 256 768
wide_region_ends = refl
