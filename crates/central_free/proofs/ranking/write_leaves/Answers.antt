use Rattle.std.proofs.Common.{◌≡◌, arith}
use Rattle.std.proofs.lemmas.List.{get_or_past}
use Rattle.central_free.specs.Ranking.{node_at}
use Rattle.central_free.proofs.RankWrites.{HasWritten-more, HasLeaves-written, standings-written}
use Rattle.central_free.proofs.ranking.write_leaves.Goals as goal

-- what is written is the rank's standing, or that of no span behind the ranks
read : (c : goal.Joined-slot-old) → c.if-slot-old.standing ≡ (node_at c.args.old.now c.loop-slot.slot).standing
read c = grind (arith, get_or_past)

pub loop-slot-preserved : goal.loop-slot-preserved
loop-slot-preserved c =
    HasWritten-more c.args.slots c.loop-slot.nodes c.args.old.now c.loop-slot.slot c.if-slot-old.standing (omega (arith, c.requires.size)) c.loop-slot-test.true (read c) c.loop-slot.invariant

pub returns-clause-leaves : goal.returns-clause-leaves
returns-clause-leaves c =
    HasLeaves-written c.args.slots c.loop-slot.nodes c.args.old.now c.loop-slot.slot c.loop-slot-test.false c.loop-slot.invariant

pub returns-clause-standings : goal.returns-clause-standings
returns-clause-standings c =
    standings-written c.args.slots c.loop-slot.nodes c.args.old.now c.loop-slot.slot c.loop-slot-test.false c.loop-slot.invariant
