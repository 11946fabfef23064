use Rattle.std.proofs.Common.{◌≡◌, ℕ, ◌<◌, ◌≤◌}
use Rattle.huge_table.specs.Table.{at}
use Rattle.huge_table.proofs.tests.are.Given as goal

abbrev pub invariant-loop-place : goal.invariant-loop-place
invariant-loop-place l = (h : ℕ) → l.first ≤ h → h < l.place → (at l.table h).kind ≡ l.wanted
