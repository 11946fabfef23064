use Rattle.std.proofs.Common.{◌≡◌, ◌≢◌, ◌<◌, ℕ, true, false, get_or}
use Rattle.tc_model.specs.declared.board.Turn.TheVariants.{Ended}
use Rattle.tc_model.specs.Turns.{is_halted}
use Rattle.replay_workers.proofs.together.is_done.Given as goal

abbrev pub invariant-loop-i : goal.invariant-loop-i
invariant-loop-i g l = record {
  ended : l.all ≡ true → (k : ℕ) (d : _) → k < l.i → (get_or l.workers k d).last ≡ Ended;
  going : (k : ℕ) (d : _) → k < l.i → is_halted (get_or l.workers k d).last ≡ false;
  left : l.all ≡ false → (k : ℕ) × (k < l.i) × ((d : _) → (get_or l.workers k d).last ≢ Ended);
}
