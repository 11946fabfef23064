use Rattle.holdings.proofs.Start.{holds_at_first}
use Rattle.holdings.proofs.holds_at_first.Goals as goal

pub returns : goal.returns
returns c = holds_at_first
