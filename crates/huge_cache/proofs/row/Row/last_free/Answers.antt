use Rattle.std.proofs.Common.{arith}
use Rattle.huge_cache.proofs.Common.{nat_tests, get_or_past}
use Rattle.huge_cache.proofs.Padded.{last-front, none-front}
use Rattle.huge_cache.proofs.row.Row.last_free.Goals as goal

pub last_range-requires : goal.last_range-requires
last_range-requires c = omega (arith, c.self.invariant.0.within)

pub returns-then-self-eq0-clause-none : goal.returns-then-self-eq0-clause-none
returns-then-self-eq0-clause-none c = grind (arith, nat_tests, get_or_past)

pub returns-clause-found : goal.returns-clause-found
returns-clause-found c = grind (arith, last-front)

pub returns-clause-none : goal.returns-clause-none
returns-clause-none c = grind (arith, nat_tests, none-front)
