-- A put that fails by its number has taken the first half of the piece.
use Rattle.std.proofs.Common.{◌/◌, length, arith}
use Rattle.std.proofs.lemmas.Grind.{common_steps}
use Rattle.tc_ports.proofs.mem_sink.MemSinkSink.put.Goals as goal

pub returns-then-contains-clause-part : goal.returns-then-contains-clause-part
returns-then-contains-clause-part c =
    (length c.args.piece.now / 2, omega arith, grind (arith, common_steps))
