-- Where the keys that don't come before a key begin.
use Rattle.std.specs.Prelude.{◌≡◌, ℕ, ◌<◌, ◌≤◌, Bool, true, false, List, length}
use Rattle.std.specs.List.{slice_index_or}

-- all keys before a place come before a key, and none from there on does
pub record IsPlaceOf {K : Type 0} (before : K → K → Bool) (keys : List K) (key : K) (place : ℕ) : Type 0 where
  pub within : place ≤ length keys
  pub early : (i : ℕ) (d : K) → i < place → before (slice_index_or keys i d) key ≡ true
  pub behind : (i : ℕ) (d : K) → place ≤ i → i < length keys → before (slice_index_or keys i d) key ≡ false
