use Rattle.page_heap.proofs.heap.PageHeap.next_givers.Goals as goal

pub returns-in_err-last_idle-in-Regions-clause-none : goal.returns-in_err-last_idle-in-Regions-clause-none
returns-in_err-last_idle-in-Regions-clause-none c = rw (c.from_residual.ensures, c.in-Regions.is) c.in_err-last_idle-in-Regions.ensures.none

pub returns-in_err-candidate-in-Filler-clause-none : goal.returns-in_err-candidate-in-Filler-clause-none
returns-in_err-candidate-in-Filler-clause-none c = rw (c.from_residual-in_err-candidate-in-Filler.ensures, c.in-Filler.is) c.in_err-candidate-in-Filler.ensures.none
