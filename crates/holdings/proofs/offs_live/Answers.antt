use Rattle.holdings.proofs.Held.{offs_live}
use Rattle.holdings.proofs.offs_live.Goals as goal

pub returns : goal.returns
returns c = offs_live
