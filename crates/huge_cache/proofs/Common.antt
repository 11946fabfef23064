-- The names of the crates below that most proofs here cite, passed on from one place. Declares nothing.
pub use Rattle.free_ranges.specs.Ranges.{IsLastRange, IsRange}
pub use Rattle.free_ranges.specs.declared.range.FreeRange.{FreeRange}
pub use Rattle.heap_rules.proofs.Numbered.{at_number-place}
pub use Rattle.heap_rules.specs.CacheFlags.{limit}
pub use Rattle.huge_cache.specs.Cache.{Cache, is_backed}
pub use Rattle.huge_cache.specs.Rows.{IsPadded, IsSound}
pub use Rattle.huge_cache.specs.Uses.{greatest_of, IsFalling, with_newest}
pub use Rattle.range_bits.proofs.Counts.{free_inside, used_inside}
pub use Rattle.range_bits.proofs.Placing.{get_or-with_places, length-with_places}
pub use Rattle.range_bits.proofs.RangeFacts.{best_is_fit, fold_max}
pub use Rattle.range_bits.proofs.RangeLemmas.{filter-agree, filter-none, first_least-agree, free_fits, range-within}
pub use Rattle.range_bits.proofs.Scan.{greatest-ge, none_exactly, range-append}
pub use Rattle.range_bits.proofs.Stretches.{put_count, state_count, used_and_free, used_then}
pub use Rattle.range_bits.specs.Fills.{free_count}
pub use Rattle.range_bits.specs.Ranges.{begins_range, best, first_least, free_from, longest, places, used_count, used_from, with_places}
pub use Rattle.std.proofs.lemmas.Bool.{and_left, cases_Bool, cases_lt, cond_both, eqb-false, eqb-true, false≢true, le-leb, leb-true, lt-leb, lt-ltb, not_from_true}
pub use Rattle.std.proofs.lemmas.Bool.Decides.{nat_tests}
pub use Rattle.std.proofs.lemmas.Grind.{common_steps, get_or_head}
pub use Rattle.std.proofs.lemmas.List.{append-nil, append_assoc, drop-append-le, drop-take, drop_all, get_or-append_right, get_or-drop, get_or-replicate}
pub use Rattle.std.proofs.lemmas.List.{get_or-take, get_or_append_left, get_or_past, length-append, length-drop, length-replicate, length-take-le, length_push}
pub use Rattle.std.proofs.lemmas.List.{replicate-append-replicate, set_split, take-append-le, take-replicate, take-take, take_all, take_at}
pub use Rattle.std.proofs.lemmas.List.Elements.{All-filter, All-from_get_or, All-get_or, All-head, All-nil, All-push, All-tail, All-take, All-weaker}
pub use Rattle.std.proofs.lemmas.List.Elements.{filter-append, filter_more, filter_passes}
pub use Rattle.std.proofs.lemmas.List.Sums.{count_by-le-length, fold_push, length-filter, prefix_len_passes, sum_by-cons}
pub use Rattle.std.specs.List.{last_or, prefix_len, range_with_len}
pub use Rattle.std.specs.Option.{option_copied, option_eq}
pub use Rattle.std.specs.VecDeque.{deque_capacity, deque_len}
