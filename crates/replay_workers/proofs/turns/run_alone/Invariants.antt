use Rattle.std.proofs.Common.{◌≡◌, false}
use Rattle.replay_workers.specs.Runs.{is_over, Ran, Waited, Stands}
use Rattle.replay_workers.proofs.turns.run_alone.Given as goal

abbrev pub invariant-loop : goal.invariant-loop
invariant-loop g l = record {
  ran : Ran (g.B.Board.turns l.board) (g.B.Board.thread_of l.board) l.initial.worker l.worker;
  kept : Stands (g.B.Board.fits l.board) l.worker;
  waited : is_over l.worker.last ≡ false → Waited (g.B.Board.turns l.board) l.idle l.initial.worker l.worker;
}
