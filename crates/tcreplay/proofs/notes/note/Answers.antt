use Rattle.std.proofs.Common.{◌∙◌}
use Rattle.tcreplay.proofs.NoteFacts.{put_is, noted}
use Rattle.tcreplay.proofs.notes.note.Goals as goal

pub returns-in_default : goal.returns-in_default
returns-in_default g c =
    noted c.args.end c.as_bytes.result.now _ _ c.in_default.not-Done (c.as_bytes.ensures.value ∙ (c.deref.ensures.0 ∙ c.note_of.ensures)) (put_is c.as_bytes.result.now _ _ c.put.result c.put.ensures.whole c.put.ensures.part c.put.ensures.counted c.put.ensures.cause c.put.ensures.count)
