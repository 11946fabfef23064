use Rattle.std.proofs.Common.{arith}
use Rattle.replay_workers.proofs.Overs.{lasts_over}
use denote.Param.Send.{sendable}
use Rattle.world_lock.proofs.Sent.{board_sync}
use Rattle.world_lock.proofs.run.run_in.Goals as goal

pub run_workers-workers-requires-sync-B : goal.run_workers-workers-requires-sync-B
run_workers-workers-requires-sync-B g c κs within = search (sendable, board_sync)

pub returns-clause-over : goal.returns-clause-over
returns-clause-over g c none = grind (arith, lasts_over)
