use Rattle.std.proofs.Common.{◌/◌, ◌*◌, ◌<◌}
use Rattle.central_free.specs.Ranking.{IsJoinedBut}
use Rattle.central_free.proofs.RankWrites.{HasSameLeaves}
use Rattle.central_free.proofs.ranking.join_up.Given as goal

abbrev pub invariant-loop-node : goal.invariant-loop-node
invariant-loop-node l =
    (l.node < 2 * l.slots) × HasSameLeaves l.slots l.initial.nodes l.nodes × IsJoinedBut l.slots l.nodes (l.node / 2)

abbrev pub decreases-loop-node : goal.decreases-loop-node
decreases-loop-node l = l.node
