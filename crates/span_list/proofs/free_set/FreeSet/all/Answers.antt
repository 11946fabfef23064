use Rattle.std.proofs.Common.{arith}
use Rattle.span_list.proofs.BitFacts.{clear_bits-zeros}
use Rattle.span_list.proofs.free_set.FreeSet.all.Goals as goal

pub returns : goal.returns
returns c = grind (arith, clear_bits-zeros)
