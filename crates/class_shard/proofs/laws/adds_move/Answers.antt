use Rattle.class_shard.proofs.AddsMove.{add_moves}
use Rattle.class_shard.proofs.laws.adds_move.Goals as goal

pub returns : goal.returns
returns c = add_moves
