-- The names of the crates below that most proofs here cite, passed on from one place. Declares nothing.
pub use Rattle.heap_rules.specs.Heap.{spans}
pub use Rattle.heap_rules.specs.RegionRows.{has_room, is_preferred, region_place, RegionRow}
pub use Rattle.huge_region.specs.Kept.{AreApartFrom, IsInside, IsKept, IsSound, IsSpare, key_of, regions_of}
pub use Rattle.huge_region.specs.Order.{comes_before}
pub use Rattle.huge_region.specs.Regions.{AreFreeIn, AreUsedIn, is_unused, joined, region_with, Regions, start_in, unused, with_changed, with_region}
pub use Rattle.huge_region.specs.Regions.{without_region}
pub use Rattle.huge_region.specs.Total.{total}
pub use Rattle.huge_region.specs.declared.key.RegionKey.{RegionKey}
pub use Rattle.huge_region.specs.declared.regions.HugeRegions.TheInside.{Inside}
pub use Rattle.range_bits.proofs.Counts.{free_inside, used_inside}
pub use Rattle.range_bits.proofs.Placing.{length-with_places}
pub use Rattle.range_bits.proofs.RangeFacts.{best_is_fit, best_there}
pub use Rattle.range_bits.specs.Ranges.{best, first_least, free_from, longest, used_count, used_from, with_places}
pub use Rattle.sorted_list.proofs.Rows.{index_changed, index_fewer, index_more, key_held, row_held}
pub use Rattle.std.proofs.Math.Nat.{suc-mul}
pub use Rattle.std.proofs.lemmas.Bool.{and_parts, cases_Bool, cases_lt, eq-eqb, eqb-true, le-leb, le-ltb, leb-false, leb-true, lt-leb, lt-ltb, ltb-true, ne_eqb}
pub use Rattle.std.proofs.lemmas.Bool.{not-true, not_from_false}
pub use Rattle.std.proofs.lemmas.Bool.Decides.{nat_tests}
pub use Rattle.std.proofs.lemmas.List.{get_or_default, length-replicate, length-set, length_push}
pub use Rattle.std.proofs.lemmas.List.Elements.{All-contains, All-contains_itself, All-filter, All-head, All-pop, All-push, All-set, All-tail, Contains-get_or}
pub use Rattle.std.proofs.lemmas.List.Elements.{filter_passes}
pub use Rattle.std.proofs.lemmas.Option.{none-some, same_Some}
pub use Rattle.std.specs.List.{find, list_all}
pub use Rattle.tc_units.specs.Units.{huge_pages}
