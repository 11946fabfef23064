-- What is not in the rest was written.
use Rattle.std.proofs.Common.{length}
use Rattle.tc_ports.proofs.Written.{Written}
use Rattle.tc_ports.proofs.adapters.write_piece.Given as goal

abbrev pub invariant-loop-rest : goal.invariant-loop-rest
invariant-loop-rest g l =
    Written (g.W.Write.contents l.initial.writer) (g.W.Write.contents l.writer) l.initial.rest l.rest

abbrev pub decreases-loop-rest : goal.decreases-loop-rest
decreases-loop-rest g l = length l.rest
