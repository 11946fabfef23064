use Rattle.std.proofs.Common.{◌*◌}
use Rattle.place_set.proofs.Trees.{row_none}
use Rattle.place_set.proofs.set.PlaceSet.open.Goals as goal

pub returns : goal.returns
returns c = row_none c.in_ok-open.field-0.items (64 * c.args.words) c.in_ok-open.ensures.places c.in_ok-open.ensures.none
