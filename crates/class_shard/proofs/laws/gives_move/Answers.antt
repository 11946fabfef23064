use Rattle.class_shard.proofs.GivesMove.{give_moves}
use Rattle.class_shard.proofs.laws.gives_move.Goals as goal

pub returns : goal.returns
returns c = give_moves
