use Rattle.holdings.proofs.Held.{clears_are_there}
use Rattle.holdings.proofs.clears_are_there.Goals as goal

pub returns : goal.returns
returns c = clears_are_there
