use Rattle.class_shard.proofs.FetchFinds.{fetch_finds}
use Rattle.class_shard.proofs.laws.fetches_find.Goals as goal

pub returns : goal.returns
returns c = fetch_finds
