use Rattle.holdings.proofs.Moves.{acts_keep}
use Rattle.holdings.proofs.acts_keep.Goals as goal

pub returns : goal.returns
returns c = acts_keep
