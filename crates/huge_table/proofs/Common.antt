-- The names of the crates below that most proofs here cite, passed on from one place. Declares nothing.
pub use Rattle.heap_rules.proofs.Ended.{all_used, ended, given_is_left}
pub use Rattle.heap_rules.proofs.Fits.{holds_from, holds_parts, is_Free, is_Region, reaches_from, reaches_parts, serves_at, spans_from, spans_parts}
pub use Rattle.heap_rules.proofs.Fits.{spans_reaches, unreached_unheld}
pub use Rattle.heap_rules.proofs.Left.{count_rest, none_reach, own_run, same_member, some_reach}
pub use Rattle.heap_rules.proofs.Places.{at-each, at-place, backs-map, backs-whole, each_each, each_is, each_where, length-each, page_of, same_pages}
pub use Rattle.heap_rules.specs.Free.{emptied, given_back, left, left_by, used_regions, without_unused_regions}
pub use Rattle.heap_rules.specs.Heap.{Heap, Hugepage, allocation_count, backed_count, backs, each, holds, hugepage, is_filler, is_free}
pub use Rattle.heap_rules.specs.Heap.{is_kind, is_region, is_used, opened, pages_of, reaches, row_of, run_at, spans, untouched}
pub use Rattle.heap_rules.specs.Heap.{used_row, whole, with_run, without_run}
pub use Rattle.heap_rules.specs.New.{all_backed, filler_page, more_backed, placed, region_page, run_or_tail, run_page, with_new_region}
pub use Rattle.heap_rules.specs.Sound.{AreRunsSound, HasOneRun, IsInside, IsPageOf, IsSound}
pub use Rattle.huge_table.specs.Means.{IsEnding, Means, begins_on, ends_on, is_run, is_shared, shares, taken, unbacked_span, used_alone}
pub use Rattle.huge_table.specs.Table.{AreKept, HasBits, IsNoted, IsSpan, Table, bit, by_bits, emptied_where, free_page, hugepage_of, is_between, is_even}
pub use Rattle.huge_table.specs.Table.{kind_by, noted_row, of_filler, of_kind, over_span, reached_by, region_freed, table_of, with_backing}
pub use Rattle.huge_table.specs.declared.table.HugeTable.TheInside.{Inside}
pub use Rattle.range_bits.specs.Ranges.{best, longest, used_count, with_places}
pub use Rattle.std.proofs.lemmas.Bool.Decides.{nat_tests}
pub use Rattle.std.proofs.lemmas.Bool.{and_from, and_parts, and_right, cases_Bool, cases_eq, cases_lt, eq-eqb, eqb-true, false_from_ne_true}
pub use Rattle.std.proofs.lemmas.Bool.{false≢true, le-leb, le-ltb, leb-true, lt-ltb, ltb-true, ne_eqb, or_left, or_right}
pub use Rattle.std.proofs.lemmas.List.{get_or-drop, get_or-replicate, get_or-take, get_or_default, get_or_past, length-drop, length-replicate}
pub use Rattle.std.proofs.lemmas.List.{length-take-le, same_lists}
pub use Rattle.std.proofs.lemmas.List.FromFn.{get_or-map-range_with_len, length-map-range_with_len, sum_by-map-range_with_len_more}
pub use Rattle.std.proofs.lemmas.List.Sums.{count_by-le-length, prefix_len_passes}
pub use Rattle.std.specs.List.{list_all, list_any, prefix_len, range_with_len}
pub use Rattle.tc_units.proofs.Counts.{any_is_count, count_le, count_none, count_some}
pub use Rattle.tc_units.specs.declared.rows.RowKind.{RowKind}
pub use Rattle.tc_units.specs.declared.spans.Run.{Run}
