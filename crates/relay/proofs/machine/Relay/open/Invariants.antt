use Rattle.std.proofs.Common.{◌≡◌, replicate}
use Rattle.relay.specs.Relay.{lane}
use Rattle.relay.proofs.machine.Relay.open.Given as goal

abbrev pub invariant-loop-i : goal.invariant-loop-i
invariant-loop-i l = l.parts.items ≡ replicate l._i (lane 0)
