use Rattle.node_rules.proofs.NodeRuns.{node_is_its_acts}
use Rattle.node_rules.proofs.laws.node_is_its_acts.Goals as goal

pub returns : goal.returns
returns c = node_is_its_acts
