-- The maximal free ranges of a row, as keys of a sorted list.
use Rattle.std.specs.Prelude.{◌≡◌, ℕ, ◌+◌, ◌-◌, ◌<◌, ◌≤◌, ◌&&◌, Bool, true, false, List, nat_lt, filter, length, if◌then◌else◌}
use Rattle.std.specs.List.{slice_index_or}
use Rattle.range_bits.specs.Ranges.{free_from, begins_range, places}
use Rattle.sorted_list.specs.Order.{first_by}
use Rattle.sorted_list.specs.Rows.{IsIndexOf}
use Rattle.free_ranges.specs.declared.range.FreeRange.{FreeRange}

-- the shorter first, and of equal ones the earlier
abbrev pub comes_before : FreeRange → FreeRange → Bool
comes_before a b = first_by a.len b.len (nat_lt a.start b.start)

abbrev pub sample : FreeRange
sample = record { len = 0; start = 0 }

-- where the maximal free ranges of a row begin, and the range from a place on
abbrev pub starts : List Bool → List ℕ
starts row = filter (begins_range row) (places row)

abbrev pub range_at : List Bool → ℕ → FreeRange
range_at row place = record { len = free_from row place; start = place }

-- ranges of which some are listed: all of them, or not; and how many more there is room for
pub record Listing : Type 0 where
  pub complete : Bool
  pub spare : ℕ
  pub ranges : List FreeRange

-- how often a range counts among those that pass a test: one that is empty is none
abbrev pub range_count : (FreeRange → Bool) → FreeRange → ℕ
range_count test range = if nat_lt 0 range.len && test range then 1 else 0

-- the ranges of a row, where all are listed
abbrev pub IsListed : List Bool → Listing → Type 0
IsListed row listing = listing.complete ≡ true → IsIndexOf (range_at row) (starts row) listing.ranges

-- a maximal free range of a row
pub record IsRange (row : List Bool) (range : FreeRange) : Type 0 where
  pub some : 0 < range.len
  pub within : range.start + range.len ≤ length row
  pub free : (p : ℕ) → range.start ≤ p → p < range.start + range.len → slice_index_or row p true ≡ false
  pub before : 0 < range.start → slice_index_or row (range.start - 1) true ≡ true
  pub end : range.start + range.len < length row → slice_index_or row (range.start + range.len) true ≡ true

-- the last maximal free range that begins at a place or before it: behind it no place up to that one is free
pub record IsLastRange (row : List Bool) (place : ℕ) (range : FreeRange) : Type 0 where
  pub maximal : IsRange row range
  pub upto : range.start ≤ place
  pub behind : (p : ℕ) → range.start + range.len ≤ p → p ≤ place → slice_index_or row p true ≡ true
