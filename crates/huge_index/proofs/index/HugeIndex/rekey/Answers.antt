use Rattle.std.proofs.Common.{arith}
use Rattle.huge_index.proofs.First.{counted_changed}
use Rattle.huge_index.proofs.index.HugeIndex.rekey.Goals as goal

pub invariant_of-self : goal.invariant_of-self
invariant_of-self c = counted_changed c.args.from c.args.to c.self.inside.list.keys c.rekey_slot.new.self.keys (omega arith) c.self.invariant c.rekey_slot.ensures.keys
