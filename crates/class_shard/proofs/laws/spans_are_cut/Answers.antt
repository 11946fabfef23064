use Rattle.class_shard.proofs.SpansAreCut.{spans_cut}
use Rattle.class_shard.proofs.laws.spans_are_cut.Goals as goal

pub returns : goal.returns
returns c = spans_cut
