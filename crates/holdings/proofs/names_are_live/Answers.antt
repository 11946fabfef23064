use Rattle.holdings.proofs.Held.{names_are_live}
use Rattle.holdings.proofs.names_are_live.Goals as goal

pub returns : goal.returns
returns c = names_are_live
