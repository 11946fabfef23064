use Rattle.std.proofs.Common.{List, Bool, length, sym, ap, ◌∙◌}
use Rattle.place_set.specs.Tree.{places_of}
use Rattle.place_set.proofs.Trees.{row_size}
use Rattle.place_set.proofs.set.PlaceSet.places.Goals as goal

pub returns : goal.returns
returns c = c.places.ensures ∙ ap places_of c.deref.ensures.value ∙ sym (row_size c.self.inside.levels.items) ∙ ap (λ (r : List Bool). length r) c.self.view_is
