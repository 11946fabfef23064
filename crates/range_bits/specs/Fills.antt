-- Free places counted, the end of a stretch, and places that come into use or stay so.
use Rattle.std.specs.Prelude.{◌≡◌, ℕ, ◌-◌, ◌<◌, ◌≤◌, Bool, true, false, not, ◌&&◌, nat_le, nat_lt, List, length, count_by, if◌then◌else◌}
use Rattle.std.specs.List.{slice_index_or}

-- how many places are free
abbrev pub free_count : List Bool → ℕ
free_count row = count_by not row

-- where the last place of a state before a place ends; 0 where there is none
pub record IsEnd (row : List Bool) (before : ℕ) (used : Bool) (end : ℕ) : Type 0 where
  pub within : end ≤ before
  pub behind : (k : ℕ) → end ≤ k → k < before → slice_index_or row k true ≡ not used
  pub there : 0 < end → slice_index_or row (end - 1) true ≡ used

-- A row of which the places from one up to another stay used only where another row uses them too.
pub record StaysUsed (old other new : List Bool) (from to : ℕ) : Type 0 where
  pub len : length new ≡ length old
  pub each : (k : ℕ) → slice_index_or new k false ≡ (if nat_le from k && nat_lt k to then slice_index_or old k false && slice_index_or other k false else slice_index_or old k false)
