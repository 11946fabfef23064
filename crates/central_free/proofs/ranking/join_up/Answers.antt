use Rattle.std.proofs.Common.{refl, arith}
use Rattle.central_free.proofs.RankWrites.{HasSameLeaves-more, HasLeaves-same, standings_of-same, IsJoinedBut-up, IsJoined-all}
use Rattle.central_free.proofs.ranking.join_up.Goals as goal

pub loop-node-init : goal.loop-node-init
loop-node-init c = (c.requires.inside, λ k less. refl, c.requires.others)

pub loop-node-preserved : goal.loop-node-preserved
loop-node-preserved c = grind (arith, HasSameLeaves-more c.args.slots c.args.nodes.now, IsJoinedBut-up c.args.slots)

pub returns-clause-leaves : goal.returns-clause-leaves
returns-clause-leaves c =
    HasLeaves-same c.args.slots c.args.nodes.now c.loop-node.nodes c.requires.leaves c.loop-node.invariant.1

pub returns-clause-joined : goal.returns-clause-joined
returns-clause-joined c = IsJoined-all c.args.slots c.loop-node.nodes c.loop-node.node (omega arith) c.loop-node.invariant.2

pub returns-clause-standings : goal.returns-clause-standings
returns-clause-standings c = standings_of-same c.args.slots c.args.nodes.now c.loop-node.nodes c.loop-node.invariant.1
