use Rattle.heap_rules.proofs.new_gives.Goals as goal
use Rattle.heap_rules.proofs.Given as given

pub returns : goal.returns
returns c = given.new_gives
