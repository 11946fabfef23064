use Rattle.std.proofs.Common.{◌≡◌, take}
use Rattle.tc_machine.specs.Taken.{refused_line}
use Rattle.tc_machine.proofs.taking.refused_of.Given as goal

abbrev pub invariant-loop-script : goal.invariant-loop-script
invariant-loop-script g l = l.least ≡ refused_line g.M.Allocator.takes (take l.script-index l.scripts)
