use Rattle.central_free.proofs.PutAllFacts.{IsPutting}
use Rattle.central_free.proofs.central.CentralFree.put.Given as goal

abbrev pub invariant-loop-object : goal.invariant-loop-object
invariant-loop-object l = IsPutting l.list l.initial.self l.self l.initial.freed l.freed l.object-index
