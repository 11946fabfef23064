-- The names of the crates below that most proofs here cite, passed on from one place. Declares nothing.
pub use Rattle.sorted_list.specs.Contents.{Contents, keys_of}
pub use Rattle.sorted_list.specs.Kept.{IsKept, times}
pub use Rattle.sorted_list.specs.Order.{IsFirst, IsFirstFrom, IsInOrder, IsLast, IsOrder}
pub use Rattle.sorted_list.specs.Search.{IsPlaceOf}
pub use Rattle.std.proofs.lemmas.Bool.{and_from, and_parts, cases_Bool, cases_lt, le-leb, le-ltb, lt-leb, lt-ltb, ne_eqb, not-true, not_from_false}
pub use Rattle.std.proofs.lemmas.Bool.Decides.{nat_tests}
pub use Rattle.std.proofs.lemmas.Grind.{common_steps}
pub use Rattle.std.proofs.lemmas.List.{append_assoc, drop-drop, drop-take, drop_all, drop_more, get_or-map, get_or-set_other, get_or-set_same, get_or-take}
pub use Rattle.std.proofs.lemmas.List.{get_or_default, length-append, length-drop, length-map, length-set, length-take-le, map-append, set_at, take-append-drop}
pub use Rattle.std.proofs.lemmas.List.{take-take, take_at}
pub use Rattle.std.proofs.lemmas.List.Edits.{get_or-insert_above, get_or-insert_at, get_or-insert_below, get_or-remove_above, get_or-remove_below}
pub use Rattle.std.proofs.lemmas.List.Edits.{insert-append_left, insert-append_right, length-insert, length-remove, remove-append_left, remove-append_right}
pub use Rattle.std.proofs.lemmas.List.Sorted.{IsPermutation-cons, IsPermutation-insert, IsPermutation-middle, IsPermutation-remove, IsPermutation-sym}
pub use Rattle.std.proofs.lemmas.List.Sorted.{IsPermutation-trans, sum_by-IsPermutation}
pub use Rattle.std.proofs.lemmas.List.Sums.{sum_by-append, sum_by-cons, sum_by-take-drop}
pub use Rattle.std.proofs.lemmas.Option.{get_or_from_slice_get, slice_get_read, slice_get_within}
pub use Rattle.std.specs.Prelude.{slice_get}
pub use Rattle.tc_units.proofs.Counts.{count_some}
