-- Words of 64 bits as a list of truth values.
use Rattle.std.specs.Prelude.{ℕ, ◌/◌, ◌%◌, Bool, ◌==◌, List, map}
use Rattle.std.specs.List.{slice_index_or, range_with_len}
use Rattle.std.specs.Int.{bit_at}

-- whether the bit of an index is clear
abbrev pub is_clear : List ℕ → ℕ → Bool
is_clear words i = bit_at (slice_index_or words (i / 64) 0) (i % 64) == 0

-- for each of the first n indices whether its bit is clear
abbrev pub clear_bits : List ℕ → ℕ → List Bool
clear_bits words n = map (is_clear words) (range_with_len 0 n)
