use Rattle.std.proofs.Common.{get_or, arith}
use Rattle.std.proofs.lemmas.List.{length-append}
use Rattle.tc_model.proofs.CutShort.{short_pick}
use Rattle.tc_model.proofs.Readings.{follow_more}
use Rattle.tc_model.proofs.replay.Replay.follow_first.Goals as goal

pub returns-in-Ok-clause-order : goal.returns-in-Ok-clause-order
returns-in-Ok-clause-order g c = let few = c.step_at.new.self.few in grind (arith, few, follow_more, length-append)

pub returns-in-Err-clause-err : goal.returns-in-Err-clause-err
returns-in-Err-clause-err g c =
    let stayed = c.follow_staying-count.ensures in
    short_pick g.M.Machine.rules c.args.self.now.order.items c.args.picks.now c.follow_staying-count.result (get_or c.args.picks.now 0 0) c.in-Err.fault stayed.machine stayed.limit stayed.order c.in-Err.ensures.err c.in-Err.ensures.fault
