use Rattle.size_classes.proofs.Fields.{found_there}
use Rattle.size_classes.proofs.check.field.Goals as goal

pub unwrap-requires : goal.unwrap-requires
unwrap-requires c = found_there _ _ _ c.requires c.get.ensures.value
