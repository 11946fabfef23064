use Rattle.std.proofs.lemmas.Bool.Decides.{nat_tests}
use Rattle.std.proofs.Common.{List, Bool, length, ap, arith}
use Rattle.std.proofs.lemmas.List.{with_items_is}
use Rattle.place_set.specs.Tree.{places_of}
use Rattle.place_set.proofs.Trees.{row_size, row_put}
use Rattle.place_set.proofs.set.PlaceSet.remove.Goals as goal

pub put_in-requires-clause-inside : goal.put_in-requires-clause-inside
put_in-requires-clause-inside c = omega (arith, c.requires, row_size c.self.inside.levels.items, ap (λ (r : List Bool). length r) c.self.view_is, ap places_of c.deref_mut.ensures.value)

pub returns : goal.returns
returns c = grind (arith, nat_tests, with_items_is, row_put, row_size)
