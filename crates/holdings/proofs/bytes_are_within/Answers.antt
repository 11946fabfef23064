use Rattle.holdings.proofs.Blocks.{bytes_are_within}
use Rattle.holdings.proofs.bytes_are_within.Goals as goal

pub returns : goal.returns
returns c = bytes_are_within
