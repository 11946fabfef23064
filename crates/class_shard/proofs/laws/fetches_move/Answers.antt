use Rattle.class_shard.proofs.FetchesMove.{fetch_moves}
use Rattle.class_shard.proofs.laws.fetches_move.Goals as goal

pub returns : goal.returns
returns c = fetch_moves
