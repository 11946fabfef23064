-- The names of the crates below that most proofs here cite, passed on from one place. Declares nothing.
pub use Rattle.heap_rules.proofs.Accounts.{both, own_backs, same_sums, self, spare_counts, sum-adds, sum-filter, sum-map'}
pub use Rattle.heap_rules.proofs.Chosen.{AreFree, mapped, run_choice_free}
pub use Rattle.heap_rules.proofs.Ended.{all_used, ended, free_leaves, given_back_sound, given_is_left, none_kept, range_used}
pub use Rattle.heap_rules.proofs.Fillers.{AreUnused, IsFitting, IsRowWithRoom, given_filler, is_Filler, rows_fit, unused_at}
pub use Rattle.heap_rules.proofs.Fits.{holds_from, holds_parts, is_Free, is_Region, reaches_from, reaches_parts, serves_at, spans_from, spans_parts}
pub use Rattle.heap_rules.proofs.Fits.{unreached_unheld}
pub use Rattle.heap_rules.proofs.Left.{count_rest, fewer, left_kinds, left_runs, live_inside, own_run, same_member, unused_rest, used_rest}
pub use Rattle.heap_rules.proofs.Live.{Contains-filter, count-with, counts_used, filter_holds, unused_counts, used_counts, used_with_new}
pub use Rattle.heap_rules.proofs.Longest.{prefix_long}
pub use Rattle.heap_rules.proofs.Numbered.{at_number-next, at_number-place}
pub use Rattle.heap_rules.proofs.Places.{at, at-each, at-next, backs-map, each_each, each_is, each_where, filler_row, idle_at, length-each, map-at, map-place, page_of}
pub use Rattle.heap_rules.proofs.Places.{region_row_of, spare_rows}
pub use Rattle.heap_rules.proofs.Released.{free_sound, idle_sound, release_keeps, spare_sound}
pub use Rattle.heap_rules.proofs.Remade.{here, remade}
pub use Rattle.heap_rules.specs.Choice.{filler_rows, hugepages_for, region_rows, run_choice, taken_row, unready_row}
pub use Rattle.heap_rules.specs.FillerRows.{FillerRow, filler_place}
pub use Rattle.heap_rules.specs.Free.{given_back, left_by, used_regions, without_unused_regions}
pub use Rattle.heap_rules.specs.Heap.{Heap, Hugepage, allocation_count, backed_count, backed_pages, backs, each, hugepage, is_filler, is_free}
pub use Rattle.heap_rules.specs.Heap.{is_free_backed, is_kind, is_region, is_used, longest_range, numbers, opened}
pub use Rattle.heap_rules.specs.Heap.{pages_of, reaches, region_row, row_of, run_at, spans, tier, untouched, used_count, used_pages, used_row, with_run}
pub use Rattle.heap_rules.specs.Laws.{BacksNone, IsGiven, IsReleased, IsRid}
pub use Rattle.heap_rules.specs.New.{Placed, all_backed, filler_page, in_filler, in_fresh, in_new_region, in_region, more_backed, new_unsettled, new_whole}
pub use Rattle.heap_rules.specs.New.{none_fits, placed, region_page, run_or_tail, run_page, slack, with_new_region}
pub use Rattle.heap_rules.specs.RegionRows.{RegionRow, region_place}
pub use Rattle.heap_rules.specs.Release.{Released, free_given, idle_given, is_idle, only_used, release}
pub use Rattle.heap_rules.specs.Release.{spare_given, spare_pages, spare_row, whole_given}
pub use Rattle.heap_rules.specs.Settle.{counted, settled, unbacked}
pub use Rattle.heap_rules.specs.Sound.{AreLimits, AreRunsSound, HasNoUsed, IsHugepageOf, IsInside, IsRegion, IsSound}
pub use Rattle.heap_rules.specs.declared.config.HeapConfig.{HeapConfig}
pub use Rattle.huge_cache.specs.Cache.{Cache, IsLastStretch, is_backed, over_count, with_backed_run, with_huge, without_backing}
pub use Rattle.huge_cache.specs.declared.stretch.Stretch.{Stretch}
pub use Rattle.huge_filler.specs.Measures.{IsCandidate, IsPreferred, donated_free, free_of_donated, measures_at, prefers, with_measures}
pub use Rattle.huge_filler.specs.declared.measures.Measures.{Measures}
pub use Rattle.huge_region.specs.Regions.{AreFreeIn, AreUsedIn, Regions, is_unused, joined, region_with, start_in, with_changed, without_region}
pub use Rattle.huge_table.specs.Means.{AllUsed, IsEnding, Means, begins_on, has_used, is_run, shares, taken, unbacked_span, used_alone}
pub use Rattle.huge_table.specs.Table.{IsSpan, Table, is_even, reached_by}
pub use Rattle.page_heap.specs.Freed.{AreFreed}
pub use Rattle.page_heap.specs.Gives.{AreLast, IsFirstGiver, IsLast, IsNext, IsPast, behind, given_by, over_limit}
pub use Rattle.page_heap.specs.Inside.{IsKept, IsWell, Shows, cache_of, heap_of, measured, measures, measures_of, regions_of, spare_of}
pub use Rattle.page_heap.specs.Routes.{IsInHugepages, IsInOneHugepage, IsInRegion, IsRouted}
pub use Rattle.page_heap.specs.Told.{IsTold, measures_by, remeasured, with_freed, with_shown}
pub use Rattle.page_heap.specs.declared.heap.PageHeap.TheInside.{Inside}
pub use Rattle.range_bits.proofs.Placing.{get_or-with_places, length-with_places}
pub use Rattle.range_bits.proofs.RangeLemmas.{filter-agree, first_least-all, range-within}
pub use Rattle.range_bits.specs.Ranges.{best, first_least, free_from, longest, with_places}
pub use Rattle.std.proofs.lemmas.Bool.Decides.{nat_tests}
pub use Rattle.std.proofs.lemmas.Bool.{and_left, and_parts, and_right, cases_Bool, cases_eq, cases_lt, false_from_ne_true}
pub use Rattle.std.proofs.lemmas.Bool.{false≢true, le-leb, le-ltb, leb-true, lt-leb, lt-ltb, ne_eqb, not-true, not_from_false}
pub use Rattle.std.proofs.lemmas.List.{get_or-drop, get_or-map, get_or-replicate, get_or-set_other, get_or-set_same, get_or_default, get_or_past}
pub use Rattle.std.proofs.lemmas.List.{length-drop, length-map, length-replicate, length-set, same_lists, take_all}
pub use Rattle.std.proofs.lemmas.List.Elements.{All-contains, All-filter, All-head, All-tail, Contains-get_or}
pub use Rattle.std.proofs.lemmas.List.FromFn.{get_or-enumerate_from, get_or-map-range_with_len, get_or-range_with_len, length-enumerate_from}
pub use Rattle.std.proofs.lemmas.List.FromFn.{length-map-range_with_len, length-range_with_len}
pub use Rattle.std.proofs.lemmas.List.Sums.{count_by-le-length, sum-map, sum_by-cons, sum_by-le, sum_by-take-le, sum_by_more}
pub use Rattle.std.proofs.lemmas.Option.{none-some, same_Some}
pub use Rattle.std.specs.List.{enumerate_from, find, list_all, list_any, range_with_len}
pub use Rattle.tc_units.proofs.Counts.{any_is_count, count-cons, count_le, count_none, count_some, one-false, one-true}
pub use Rattle.tc_units.proofs.SortedFacts.{All-with_item, Contains-new, Contains-old, map-with_item, sum_by-with_item, without_none}
pub use Rattle.tc_units.specs.declared.rows.RowKind.{RowKind}
pub use Rattle.tc_units.specs.declared.rows.RowView.{RowView}
pub use Rattle.tc_units.specs.declared.spans.Run.{Run}
pub use Rattle.tc_units.specs.declared.units.Huge.{Huge}
