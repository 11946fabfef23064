use Rattle.std.proofs.Common.{◌≡◌, false, length}
use Rattle.replay_workers.specs.Runs.{RanBelow, StillBelow, SameFrom}
use Rattle.replay_workers.proofs.together.give_round.Given as goal

abbrev pub invariant-loop-i : goal.invariant-loop-i
invariant-loop-i g l = record {
  long : length l.workers ≡ length l.initial.workers;
  ran : RanBelow (g.B.Board.turns l.board) (g.B.Board.thread_of l.board) (g.B.Board.fits l.board) l.i l.initial.workers l.workers;
  same : SameFrom l.i l.initial.workers l.workers;
  still : l.moved ≡ false → StillBelow (g.B.Board.turns l.board) l.i l.initial.workers l.workers;
}
