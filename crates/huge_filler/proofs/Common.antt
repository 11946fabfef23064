-- The names of the crates below that most proofs here cite, passed on from one place. Declares nothing.
pub use Rattle.heap_rules.proofs.Numbered.{at_number-next, at_number-place, at_number-there}
pub use Rattle.heap_rules.proofs.Orders.{by_first, last_is}
pub use Rattle.huge_filler.specs.GivingOrder.{total}
pub use Rattle.huge_filler.specs.Keys.{comes_before, giver_of, IsFollowed, IsKept, key_of, Lists}
pub use Rattle.huge_filler.specs.Measures.{donated_free, free_of_donated, IsCandidate, IsPreferred, measures_at, prefers, spare_row}
pub use Rattle.huge_filler.specs.declared.giver.Giver.{Giver}
pub use Rattle.huge_filler.specs.declared.measures.Measures.{Measures}
pub use Rattle.huge_index.specs.Order.{IsFirstOf, Serves}
pub use Rattle.huge_index.specs.declared.key.Key.{Key}
pub use Rattle.sorted_list.specs.Order.{IsFirst, IsOrder}
pub use Rattle.std.proofs.lemmas.Bool.{cases_Bool, cases_eq, cases_lt, ne_eqb, not-true}
pub use Rattle.std.proofs.lemmas.List.{get_or-replicate, get_or-set_other, get_or-set_same, get_or_default, get_or_past, length-replicate, length-set}
pub use Rattle.std.proofs.lemmas.List.{replicate_more}
pub use Rattle.std.proofs.lemmas.List.Elements.{All-contains}
pub use Rattle.std.proofs.lemmas.List.Sums.{get_or-le-sum_by, sum_by-append, sum_by-cons, sum_by-le, sum_by-set}
