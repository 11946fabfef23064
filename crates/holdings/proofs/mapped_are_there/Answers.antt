use Rattle.holdings.proofs.Held.{mapped_are_there}
use Rattle.holdings.proofs.mapped_are_there.Goals as goal

pub returns : goal.returns
returns c = mapped_are_there
