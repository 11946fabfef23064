use Rattle.std.proofs.Common.{length, sym, ◌∙◌, ap}
use Rattle.span_list.proofs.BitFacts.{length-clear_bits}
use Rattle.span_list.proofs.free_set.FreeSet.len.Goals as goal

pub returns : goal.returns
returns c = sym (ap length (sym c.self.view_is) ∙ length-clear_bits c.self.inside.taken.items c.self.inside.len)
