-- The names of the crates below that most proofs here cite, passed on from one place. Declares nothing.
pub use Rattle.free_ranges.specs.Ranges.{comes_before, IsLastRange, IsListed, IsRange, Listing, range_at, starts}
pub use Rattle.free_ranges.specs.Total.{total}
pub use Rattle.free_ranges.specs.declared.range.FreeRange.{FreeRange}
pub use Rattle.range_bits.proofs.Counts.{free_inside, used_inside}
pub use Rattle.range_bits.proofs.Placing.{length-with_places, place_before, place_behind, place_in, placed_again, placed_already}
pub use Rattle.range_bits.proofs.RangeLemmas.{free_at, range-within}
pub use Rattle.range_bits.proofs.Scan.{begins, behind_free, best_is, best_none, free_run, longest_is, none_exactly, range-append, used_begins}
pub use Rattle.range_bits.specs.Ranges.{begins_range, best, free_from, longest, places, used_from, with_places}
pub use Rattle.sorted_list.proofs.Rows.{count_held, found_some, key_held, row_held}
pub use Rattle.sorted_list.specs.Order.{first_by, IsFirstFrom, IsLast}
pub use Rattle.sorted_list.specs.Rows.{IsIndexOf}
pub use Rattle.std.proofs.lemmas.Bool.{and_from, and_parts, cases_Bool, cases_eq, cases_lt, false≢true, le-ltb, lt-ltb, not-false, not-true}
pub use Rattle.std.proofs.lemmas.Bool.Decides.{nat_tests}
pub use Rattle.std.proofs.lemmas.List.{get_or-drop, get_or-replicate, get_or-set_other, get_or-set_same, get_or_past, length-drop, length-replicate, length-set}
pub use Rattle.std.proofs.lemmas.List.Elements.{All-contains, All-filter, filter_passes}
pub use Rattle.std.proofs.lemmas.List.Sums.{prefix_len_passes, prefix_len_stops, sum_by-append, sum_by-cons}
pub use Rattle.std.specs.List.{range_with_len}
