use Rattle.std.proofs.Common.{◌-◌}
use Rattle.central_free.proofs.RankWrites.{HasSameLeaves, IsJoinedBehind}
use Rattle.central_free.proofs.ranking.join_all.Given as goal

abbrev pub invariant-loop-above : goal.invariant-loop-above
invariant-loop-above l =
    HasSameLeaves l.slots l.initial.nodes l.nodes × IsJoinedBehind l.slots l.nodes (l.slots - l.above)
