use Rattle.class_shard.proofs.CountedOnceDiffer.{once_differ}
use Rattle.class_shard.proofs.laws.counted_once_differ.Goals as goal

pub returns : goal.returns
returns c = once_differ
