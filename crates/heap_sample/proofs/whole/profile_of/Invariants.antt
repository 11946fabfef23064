use Rattle.std.proofs.Common.{◌≡◌, length, take}
use Rattle.heap_sample.specs.Profiles.{IsProfileOf}
use Rattle.heap_sample.proofs.whole.profile_of.Given as goal

abbrev pub invariant-loop-line : goal.invariant-loop-line
invariant-loop-line l = IsProfileOf (take l.line-index l.lines) l.profile × (l.profile.step ≡ l.step) × (length l.profile.asked ≡ l.threads)
