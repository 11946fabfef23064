use Rattle.std.proofs.Common.{arith}
use Rattle.huge_cache.proofs.Common.{nat_tests, used_and_free}
use Rattle.huge_cache.proofs.Padded.{front_length, few}
use Rattle.huge_cache.proofs.row.Row.free.Goals as goal

pub overflow_sub-result : goal.overflow_sub-result
overflow_sub-result c = omega (arith, few c.self.inside.len c.self.inside.bits c.self.invariant.0)

pub returns : goal.returns
returns c = grind (arith, nat_tests, used_and_free, front_length)
