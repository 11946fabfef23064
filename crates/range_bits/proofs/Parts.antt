-- The words of a part of a row.
use Rattle.range_bits.proofs.Common.{nat_tests, same_lists, length-take-le, length-drop, get_or-take, get_or-drop, row_of}
use Rattle.std.proofs.Common.{◌≡◌, ℕ, ◌+◌, ◌*◌, ◌≤◌, List, length, take, drop, arith}
use Rattle.range_bits.proofs.RowFacts.{length-row_of, get_or-row_of}

pub row_of_part : (words : List ℕ) (first count : ℕ) → first + count ≤ length words → row_of (take count (drop first words)) ≡ take (64 * count) (drop (64 * first) (row_of words))
row_of_part words first count inside = grind (arith, nat_tests, length-row_of, length-take-le, length-drop, same_lists, get_or-row_of, get_or-take, get_or-drop)
