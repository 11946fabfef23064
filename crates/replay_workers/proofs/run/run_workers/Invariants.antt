use Rattle.std.proofs.Common.{◌≡◌, length}
use Rattle.replay_workers.specs.Runs.{RanBelow}
use Rattle.replay_workers.proofs.run.run_workers.Given as goal

abbrev pub invariant-loop : goal.invariant-loop
invariant-loop g l = record {
  long : length l.workers.items ≡ length l.fn.workers.items;
  ran : RanBelow (g.B.Board.turns l.board) (g.B.Board.thread_of l.board) (g.B.Board.fits l.board) (length l.fn.workers.items) l.fn.workers.items l.workers.items;
}
