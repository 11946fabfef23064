-- Free ranges of a row of places, each of which is used (true) or free (false), over rows of any length.
use Rattle.std.specs.Prelude.{ℕ, ◌+◌, ◌-◌, Bool, true, ◌==◌, ◌&&◌, ◌||◌, not, nat_lt, nat_le, List, [], ◌∷◌, ◌++◌, length, take, drop, replicate, count_by, fold, filter, map, max, Option, Some, None, if◌then◌else◌}
use Rattle.std.specs.Option.{option_map_or}
use Rattle.std.specs.List.{prefix_len, range_with_len, slice_index_or}

-- how many free places follow each other from a place on
abbrev pub free_from : List Bool → ℕ → ℕ
free_from row place = prefix_len not (drop place row)

-- the places of a row, in order
abbrev pub places : List Bool → List ℕ
places row = range_with_len 0 (length row)

-- the greatest number of free places that follow each other
abbrev pub longest : List Bool → ℕ
longest row = fold max 0 (map (free_from row) (places row))

-- whether a maximal free range begins at a place: it is free, and the place before it isn't or there is none
abbrev pub begins_range : List Bool → ℕ → Bool
begins_range row place = not (slice_index_or row place true) && (place == 0 || slice_index_or row (place - 1) true)

-- the first of those than which none is less
abbrev pub first_least : {X : Type 0} → (X → X → Bool) → List X → Option X
first_least less [] = None
first_least less (x ∷ xs) = Some (option_map_or (λ y. if less y x then y else x) (first_least less xs) x)

-- where the shortest maximal free range of at least n places begins, the first such where several are as short
abbrev pub best : List Bool → ℕ → Option ℕ
best row n = first_least (λ a b. nat_lt (free_from row a) (free_from row b)) (filter (λ place. begins_range row place && nat_le n (free_from row place)) (places row))

-- how many used places follow each other from a place on
abbrev pub used_from : List Bool → ℕ → ℕ
used_from row place = prefix_len (λ used. used) (drop place row)

-- how many places are used
abbrev pub used_count : List Bool → ℕ
used_count row = count_by (λ used. used) row

-- a row whose n places from a start on are made used or free
abbrev pub with_places : List Bool → ℕ → ℕ → Bool → List Bool
with_places row start n used = take start row ++ replicate n used ++ drop (start + n) row
