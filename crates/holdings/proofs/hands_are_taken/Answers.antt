use Rattle.holdings.proofs.Held.{hands_are_taken}
use Rattle.holdings.proofs.hands_are_taken.Goals as goal

pub returns : goal.returns
returns c = hands_are_taken
