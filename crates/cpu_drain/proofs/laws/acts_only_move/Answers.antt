use Rattle.cpu_drain.proofs.Moved.{instruct_moves, grow_moves, abort_moves, take_moves, remote_moves}
use Rattle.cpu_drain.proofs.Does.{instruct_does, grow_does, take_does}
use Rattle.cpu_drain.proofs.laws.acts_only_move.Goals as goal

pub returns : goal.returns
returns c = record { instruct = instruct_moves; grow = grow_moves; abort = abort_moves; take = take_moves; remote = remote_moves; does = instruct_does; grow_does = grow_does; take_does = take_does }
