use Rattle.std.proofs.Common.{arith}
use Rattle.std.proofs.lemmas.List.{length-append}
use Rattle.tc_model.proofs.Readings.{follow_more}
use Rattle.tc_model.proofs.replay.Replay.follow_staying.Goals as goal

pub loop-next-preserved : goal.loop-next-preserved
loop-next-preserved g c = grind (arith, follow_more, length-append)
