use Rattle.std.proofs.Common.{arith}
use Rattle.std.proofs.lemmas.List.{get_or_read}
use Rattle.span_list.proofs.BitFacts.{length-clear_bits, clear_bits-put}
use Rattle.span_list.proofs.free_set.FreeSet.put.Goals as goal

pub index_mut-requires : goal.index_mut-requires
index_mut-requires c = grind (arith, length-clear_bits)

pub returns : goal.returns
returns c = grind (arith, length-clear_bits, get_or_read, clear_bits-put)
