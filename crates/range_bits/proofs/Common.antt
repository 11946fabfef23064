-- The names of the crates below that most proofs here cite, passed on from one place. Declares nothing.
pub use Rattle.range_bits.specs.Fills.{free_count, IsEnd, StaysUsed}
pub use Rattle.range_bits.specs.Ranges.{begins_range, best, first_least, free_from, longest, places, used_count, used_from, with_places}
pub use Rattle.range_bits.specs.Words.{is_marked, is_one, IsNext, IsNextRange, row_of}
pub use Rattle.std.proofs.Math.Nat.{pow-le-pow_right, pow-succ'}
pub use Rattle.std.proofs.lemmas.Bool.{and_from, and_left, and_parts, and_right, cases_Bool, cases_lt, cond_both, le-leb, le-ltb, leb-false, leb-true, lt-ltb}
pub use Rattle.std.proofs.lemmas.Bool.{ne_eqb, not-true, not_from_false, or_left, or_right}
pub use Rattle.std.proofs.lemmas.Bool.Decides.{nat_tests}
pub use Rattle.std.proofs.lemmas.Grind.{common_steps}
pub use Rattle.std.proofs.lemmas.List.{append_assoc, drop-drop, drop_at, ext_get_or, get_or-append_right, get_or-drop, get_or-map, get_or-replicate}
pub use Rattle.std.proofs.lemmas.List.{get_or-set_other, get_or-set_same, get_or-take, get_or_append_left, get_or_past, get_or_read, length-append, length-drop}
pub use Rattle.std.proofs.lemmas.List.{length-map, length-replicate, length-take, length-take-le, nil_from_length, same_lists}
pub use Rattle.std.proofs.lemmas.List.Elements.{All-filter, All-from_get_or, All-head, All-tail, filter_passes}
pub use Rattle.std.proofs.lemmas.List.Sums.{count_by-le-length, get_or-le-sum_by, length-filter, prefix_len-drop_all, prefix_len-drop_no, prefix_len-drop_yes}
pub use Rattle.std.proofs.lemmas.List.Sums.{prefix_len-le-length, prefix_len_passes, prefix_len_stops, sum_by-append, sum_by-cons, sum_by-take-drop}
pub use Rattle.std.proofs.lemmas.Nat.{and_le_l, and_le_r, pow_pos}
pub use Rattle.std.proofs.lemmas.Nat.Bits.{bit_at-lt, bit_at-trailing_zeros, bit_at-zero, bit_at_above, bit_at_and, bit_at_cat_high, bit_at_mask_above}
pub use Rattle.std.proofs.lemmas.Nat.Bits.{bit_at_mask_below, bit_at_mask_inside, bit_at_not, bit_at_ones, bit_at_ones_above, bit_at_or, ones_shl, ones_shr}
pub use Rattle.std.proofs.lemmas.Nat.Bits.{same_from_bits_below, shr_and_one}
pub use Rattle.std.specs.Int.{bit_at, bit_not, leading_zeros, trailing_zeros}
pub use Rattle.std.specs.List.{prefix_len, range_with_len, sum_by}
pub use Rattle.tc_units.proofs.Counts.{count_none}
