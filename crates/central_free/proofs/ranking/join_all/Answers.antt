use Rattle.std.proofs.Common.{refl, arith}
use Rattle.central_free.proofs.RankWrites.{HasSameLeaves-more, HasLeaves-same, standings_of-same, IsJoinedBehind-more}
use Rattle.central_free.proofs.ranking.join_all.Goals as goal

pub loop-above-init : goal.loop-above-init
loop-above-init c = (λ k less. refl, λ i some inner behind. absurd (omega arith))

pub loop-above-preserved : goal.loop-above-preserved
loop-above-preserved c = grind (arith, IsJoinedBehind-more c.args.slots, HasSameLeaves-more c.args.slots c.args.nodes.now)

pub returns-clause-leaves : goal.returns-clause-leaves
returns-clause-leaves c =
    HasLeaves-same c.args.slots c.args.nodes.now c.loop-above.nodes c.requires.leaves c.loop-above.invariant.0

pub returns-clause-joined : goal.returns-clause-joined
returns-clause-joined c = λ i some inner. c.loop-above.invariant.1 i some inner (omega arith)

pub returns-clause-standings : goal.returns-clause-standings
returns-clause-standings c = standings_of-same c.args.slots c.args.nodes.now c.loop-above.nodes c.loop-above.invariant.0
