use Rattle.node_rules.proofs.NodesLaw.{nodes_are_lawful}
use Rattle.node_rules.proofs.laws.nodes_are_lawful.Goals as goal

pub returns : goal.returns
returns c = nodes_are_lawful
