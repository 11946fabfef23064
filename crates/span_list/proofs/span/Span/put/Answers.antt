use Rattle.std.proofs.Common.{◌≡◌, ◌-◌, true, set, arith}
use Rattle.std.proofs.lemmas.List.{length-set}
use Rattle.std.proofs.Math.Nat.{div-le_self}
use Rattle.std.proofs.lemmas.Bool.Decides.{nat_tests}
use Rattle.span_list.proofs.SpanFacts.{index_found, taken_place, put_counts, put_moves, IsTaken-after_put}
use Rattle.span_list.proofs.span.Span.put.Goals as goal

pub put-requires : goal.put-requires
put-requires c = grind (arith, index_found, taken_place c.self.inside.free c.requires.index true)

pub overflow_cast-distance : goal.overflow_cast-distance
overflow_cast-distance c = grind (arith, put-requires, div-le_self)

pub overflow_sub-self : goal.overflow_sub-self
overflow_sub-self c = grind (arith, put_counts c.self.inside.free c.requires.index)

-- what stands after the put
written : (c : goal.After-self-1) → c.put.new.self ≡ set c.self.inside.free c.requires.index true
written c = grind (arith)

pub invariant_of-self : goal.invariant_of-self
invariant_of-self c = grind (arith, written c, length-set c.self.inside.free c.requires.index true, put_counts c.self.inside.free c.requires.index)

pub returns-clause-all : goal.returns-clause-all
returns-clause-all c = grind (arith, nat_tests, invariant_of-self c)

pub returns-clause-moves : goal.returns-clause-moves
returns-clause-moves c = grind (arith, written c, put_moves)

pub returns-clause-kept : goal.returns-clause-kept
returns-clause-kept c = grind (arith, written c, IsTaken-after_put)
