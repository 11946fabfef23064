use Rattle.std.proofs.Common.{◌≡◌, take}
use Rattle.tc_machine.specs.Taken.{refused_in}
use Rattle.tc_machine.proofs.taking.refused_in.Given as goal

abbrev pub invariant-loop-place : goal.invariant-loop-place
invariant-loop-place g l = l.least ≡ refused_in g.M.Allocator.takes (take l.place l.script.calls)
