use Rattle.std.proofs.Common.{length, ap, arith}
use Rattle.std.proofs.lemmas.List.{length-set}
use Rattle.central_free.proofs.RankFacts.{length-standings_of}
use Rattle.central_free.proofs.RankWrites.{rank, refill, HasLeaves-set, IsJoinedBut-leaf, standings_of-set}
use Rattle.central_free.proofs.ranking.Ranking.set.Goals as goal

pub index_mut-requires : goal.index_mut-requires
index_mut-requires c =
    omega (arith, c.self.invariant.0, c.requires, ap length c.self.view_is, length-standings_of c.self.inside.slots c.self.inside.nodes.items)

pub overflow_add-leaf : goal.overflow_add-leaf
overflow_add-leaf c = grind (arith, length-standings_of)

pub join_up-requires-clause-inside : goal.join_up-requires-clause-inside
join_up-requires-clause-inside c =
    omega (arith, c.requires, ap length c.self.view_is, length-standings_of c.self.inside.slots c.self.inside.nodes.items)

pub join_up-requires-clause-leaves : goal.join_up-requires-clause-leaves
join_up-requires-clause-leaves c = grind (arith, length-standings_of, HasLeaves-set)

pub join_up-requires-clause-others : goal.join_up-requires-clause-others
join_up-requires-clause-others c =
    rw c.deref_mut.ensures.value (IsJoinedBut-leaf c.self.inside.slots c.self.inside.nodes.items c.args.slot (rank c.args.standing c.args.slot) c.self.invariant.2)

pub returns : goal.returns
returns c = grind (arith, length-set, length-standings_of, refill, standings_of-set)

pub overflow_cast-slot : goal.overflow_cast-slot
overflow_cast-slot c =
    omega (arith, c.requires, c.self.invariant.3, ap length c.self.view_is, length-standings_of c.self.inside.slots c.self.inside.nodes.items)
