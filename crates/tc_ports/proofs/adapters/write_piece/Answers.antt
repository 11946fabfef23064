use Rattle.std.proofs.lemmas.List.{take_rest}
use Rattle.tc_ports.proofs.Written.{written_more}
use Rattle.tc_ports.proofs.adapters.write_piece.Goals as goal

pub loop-rest-preserved : goal.loop-rest-preserved
loop-rest-preserved g c =
    rw take_rest (written_more _ _ _ _ c.loop-rest.rest.now c.in-Ok.n c.in-Ok.ensures.bound c.loop-rest.invariant c.in-Ok.ensures.bytes)
