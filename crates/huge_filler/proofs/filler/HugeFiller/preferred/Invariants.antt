use Rattle.std.proofs.Common.{ℕ, ◌<◌, All}
use Rattle.huge_filler.proofs.Common.{Serves}
use Rattle.huge_filler.proofs.filler.HugeFiller.preferred.Given as goal

abbrev pub invariant-loop-tier : goal.invariant-loop-tier
invariant-loop-tier l = (t : ℕ) → t < l.tier → All (λ key. ¬ (Serves t l.n key)) l.self-inside.index.keys
