use Rattle.std.proofs.Common.{arith}
use Rattle.page_heap.proofs.heap.PageHeap.give_up.Goals as goal

pub overflow_mul-result : goal.overflow_mul-result
overflow_mul-result c = omega (arith, c.unback_free.ensures.few)

pub returns-in-Free-clause-given : goal.returns-in-Free-clause-given
returns-in-Free-clause-given c = rw c.in-Free.is c.unback_free.ensures.given

pub returns-in-Regions-clause-given : goal.returns-in-Regions-clause-given
returns-in-Regions-clause-given c = rw c.in-Regions.is (λ n wanted. c.unback_idle.ensures.given n (omega arith))

pub returns-in-Filler-clause-given : goal.returns-in-Filler-clause-given
returns-in-Filler-clause-given c = rw c.in-Filler.is (λ n wanted. c.give_spare.ensures.given n (omega arith))
