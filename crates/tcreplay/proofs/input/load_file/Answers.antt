use Rattle.std.proofs.Common.{Err, ap}
use Rattle.tcreplay.proofs.LoadFacts.{load_ok, load_fails}
use Rattle.tcreplay.proofs.input.load_file.Goals as goal

pub returns-in-Ok : goal.returns-in-Ok
returns-in-Ok g c =
    load_ok c.args.name.now c.args.limit _ _ c.in-Ok.bytes c.in-Ok.ensures.within c.in-Ok.ensures.whole c.in-Ok.ensures.same_files c.in-Ok.ensures.counted c.in-Ok.ensures.count

pub returns-in-Err : goal.returns-in-Err
returns-in-Err g c =
    load_fails c.args.name.now c.args.limit _ _ c.in-Err.fault c.load_end.result c.load_end.ensures c.in-Err.ensures.refused (λ none missing. c.in-Err.ensures.untold none (ap Err missing)) c.in-Err.ensures.same_files c.in-Err.ensures.counted c.in-Err.ensures.cause
