use Rattle.std.proofs.Common.{◌≡◌, ◌<◌, ℕ, false, get_or, length}
use Rattle.replay_workers.specs.Runs.{is_over, RanBelow, Waited}
use Rattle.replay_workers.proofs.together.run_together.Given as goal

abbrev pub invariant-loop : goal.invariant-loop
invariant-loop g l = record {
  ran : RanBelow (g.B.Board.turns l.board) (g.B.Board.thread_of l.board) (g.B.Board.fits l.board) (length l.fn.workers) l.fn.workers l.workers;
  waited : (i : ℕ) (d : _) → i < length l.fn.workers → is_over (get_or l.workers i d).last ≡ false → Waited (g.B.Board.turns l.board) l.idle (get_or l.fn.workers i d) (get_or l.workers i d);
}
