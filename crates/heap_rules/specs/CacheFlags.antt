-- (huge_cache) The choice of adjacent free hugepages, and the limit of backed ones, over flags.
use Rattle.std.specs.Prelude.{ℕ, ◌+◌, ◌-◌, Bool, false, ◌&&◌, nat_le, List, [], ◌∷◌, ◌++◌, length, take, drop, fold, min, max, count_by, Option, Some, None, option_map}
use Rattle.std.specs.List.{last_or}
use Rattle.std.specs.Option.{option_or}
use Rattle.range_bits.specs.Ranges.{best}
use Rattle.heap_rules.specs.Numbered.{at_number}

-- The first of `many` adjacent free hugepages, by which aren't free and which aren't free and backed: where the shortest
-- maximal run of backed ones that is long enough begins, or, where there is none, that of free ones, backed or not.
abbrev pub run_choice : List Bool → List Bool → ℕ → Option ℕ
run_choice taken unready many = option_map (λ place. place + 1) (option_or (best unready many) (best taken many))

-- whether hugepage h is backed and free, and at least `limit` such ones stand before it
abbrev pub is_over : ℕ → List Bool → ℕ → Bool
is_over limit ready h = at_number false ready h && nat_le limit (count_by (λ b. b) (take (h - 1) ready))

-- the last `window` of the counts with a new one
abbrev pub with_count : ℕ → List ℕ → ℕ → List ℕ
with_count window counts in_use = let all = counts ++ in_use ∷ [] in drop (length all - window) all

-- the limit: `cache` where there is no count, else no more than what the greatest count is above the newest
abbrev pub limit_by : ℕ → ℕ → Option ℕ → ℕ
limit_by cache greatest None = cache
limit_by cache greatest (Some newest) = min cache (greatest - newest)

abbrev pub limit : ℕ → List ℕ → ℕ
limit cache counts = limit_by cache (fold max 0 counts) (last_or None counts)
