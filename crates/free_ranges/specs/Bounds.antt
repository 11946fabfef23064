-- Where the maximal free ranges of a row begin and stop.
use Rattle.std.specs.Prelude.{◌≡◌, ℕ, ◌+◌, ◌-◌, ◌<◌, ◌≤◌, Bool, true, false, not, ◌&&◌, nat_lt, List, length}
use Rattle.std.specs.List.{slice_index_or}
use Rattle.range_bits.specs.Ranges.{begins_range}

-- whether the place before one is free and this one isn't; places behind the row are used
abbrev pub stops_range : List Bool → ℕ → Bool
stops_range row p = nat_lt 0 p && not (slice_index_or row (p - 1) true) && slice_index_or row p true

-- for each place, whether a range begins there, and whether one stops before it
pub record Bounds : Type 0 where
  pub begins : List Bool
  pub stops : List Bool

pub record Tells (row : List Bool) (bounds : Bounds) : Type 0 where
  pub begun : (p : ℕ) → slice_index_or bounds.begins p false ≡ begins_range row p
  pub stopped : (p : ℕ) → slice_index_or bounds.stops p false ≡ stops_range row p
  pub begin_room : length row < length bounds.begins
  pub stop_room : length row < length bounds.stops

-- a row of which n places, from `start` on, were all in one state, and are so now
pub record IsPut (row new : List Bool) (start n : ℕ) : Type 0 where
  pub size : length new ≡ length row
  pub was : Bool
  pub is : Bool
  pub before : (k : ℕ) → start ≤ k → k < start + n → slice_index_or row k true ≡ was
  pub after : (k : ℕ) → start ≤ k → k < start + n → slice_index_or new k true ≡ is
  pub early : (k : ℕ) → k < start → slice_index_or new k true ≡ slice_index_or row k true
  pub late : (k : ℕ) → start + n ≤ k → slice_index_or new k true ≡ slice_index_or row k true

-- n places from `start` on, which are in one state, and what stands beside them: whether they are used, and whether the place
-- before them and the one behind them are; beyond the row all are
pub record IsBetween (row : List Bool) (start n : ℕ) (used used_before used_behind : Bool) : Type 0 where
  pub some : 0 < n
  pub first : slice_index_or row start true ≡ used
  pub last : slice_index_or row (start + n - 1) true ≡ used
  pub before : 0 < start → slice_index_or row (start - 1) true ≡ used_before
  pub none : start ≡ 0 → used_before ≡ true
  pub behind : slice_index_or row (start + n) true ≡ used_behind
