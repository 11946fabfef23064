use Rattle.std.proofs.Common.{arith}
use Rattle.huge_index.proofs.First.{counted_more}
use Rattle.huge_index.proofs.index.HugeIndex.insert.Goals as goal

pub invariant_of-self : goal.invariant_of-self
invariant_of-self c = counted_more _ c.self.inside.list.keys c.insert.new.self.keys (omega (arith, c.ranges.allocs)) c.self.invariant c.insert.ensures.keys
