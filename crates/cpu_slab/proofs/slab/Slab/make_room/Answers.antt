use Rattle.std.proofs.Common.{arith}
use Rattle.cpu_slab.proofs.GrowthFacts.{victim_other, gave_other}
use Rattle.cpu_slab.proofs.slab.Slab.make_room.Goals as goal

pub give_up-requires : goal.give_up-requires
give_up-requires c = grind (arith, victim_other)

pub returns-in-Some-clause-same : goal.returns-in-Some-clause-same
returns-in-Some-clause-same c = grind (arith, victim_other, gave_other)
