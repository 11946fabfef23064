use Rattle.std.proofs.Common.{◌≡◌, ℕ, ◌<◌, All, length, get_or}
use Rattle.replay_workers.specs.Runs.{IsReady}
use Rattle.world_lock.proofs.run.seat_all.Given as goal

abbrev pub invariant-loop-thread : goal.invariant-loop-thread
invariant-loop-thread g l = All (IsReady (λ h. h.thread.0 < g.N.Named.input.asked.config.threads)) l.workers.items × (length l.workers.items ≡ l.thread) × ((t : ℕ) (d : _) → t < l.thread → (get_or l.workers.items t d).hand.thread.0 ≡ t)
