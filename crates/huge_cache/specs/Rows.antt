-- Rows of hugepages in words of 64 places: places behind the arena's are used.
use Rattle.std.specs.Prelude.{◌≡◌, ℕ, ◌-◌, ◌≤◌, Bool, true, List, ◌++◌, length, take, replicate}
use Rattle.std.specs.List.{slice_index_or}
use Rattle.huge_cache.specs.Cache.{Cache}

-- a row whose first places are those of `huge` hugepages, and all others are used
pub record IsPadded (huge : ℕ) (row : List Bool) : Type 0 where
  pub within : huge ≤ length row
  pub padded : row ≡ take huge row ++ replicate (length row - huge) true

-- what isn't in the cache isn't there and backed
pub record IsSound (cache : Cache) : Type 0 where
  pub lengths : length cache.taken ≡ length cache.unready
  pub small : length cache.taken ≤ 4096
  pub unready : (k : ℕ) → slice_index_or cache.taken k true ≡ true → slice_index_or cache.unready k true ≡ true
