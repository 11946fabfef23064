use Rattle.huge_cache.proofs.Common.{nat_tests, common_steps}
use Rattle.std.proofs.Common.{List, Bool, length, ap, arith}
use Rattle.huge_cache.proofs.Padded.{changed, front_length, used-front}
use Rattle.huge_cache.proofs.row.Row.put.Goals as goal

pub change-was-requires-clause-inside : goal.change-was-requires-clause-inside
change-was-requires-clause-inside c = omega (arith, c.requires, front_length c.self.inside.len c.self.inside.bits c.self.invariant.0, ap (λ (r : List Bool). length r) c.self.view_is, c.self.invariant.0.within)

pub change-was-requires-clause-taken : goal.change-was-requires-clause-taken
change-was-requires-clause-taken c free = grind (arith, used-front)

pub overflow_sub-self : goal.overflow_sub-self
overflow_sub-self c = grind (arith, changed c.change-was.new.bits c.args.start c.args.n c.args.used c.self.invariant.0 c.change-was.ensures.places)

pub overflow_add-self : goal.overflow_add-self
overflow_add-self c = grind (arith, changed c.change-was.new.bits c.args.start c.args.n c.args.used c.self.invariant.0 c.change-was.ensures.places)

pub invariant_of-self : goal.invariant_of-self
invariant_of-self c = grind (arith, changed c.change-was.new.bits c.args.start c.args.n c.args.used c.self.invariant.0 c.change-was.ensures.places)

pub returns : goal.returns
returns c = grind (arith, nat_tests, common_steps, changed)
